use Rattle.table_push.proofs.TopLemmas.{no_refusal, top_set}
use Rattle.table_push.proofs.tops.set_top.Goals as goal

pub returns-in-Err-clause-left : goal.returns-in-Err-clause-left
returns-in-Err-clause-left g c x stands guid good leads =
    absurd (no_refusal x c.args.path.now guid c.in-Err.fault leads (c.in-Err.ensures.reported x stands good))

pub returns-clause-left : goal.returns-clause-left
returns-clause-left g c x stands guid good leads =
    top_set x _ _ _ c.args.path.now guid c.args.lid c.in-Ok.bytes c.with_top-wanted.result good (c.in-Ok.ensures.left x stands good) leads c.requires.lid
    (c.in-Ok.ensures.reported x stands good) c.with_top-wanted.ensures c.set.ensures.left
