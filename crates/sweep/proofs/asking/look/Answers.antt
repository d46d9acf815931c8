use Rattle.std.proofs.Common.{◌∙◌, sym}
use Rattle.sweep.proofs.AskLemmas.{looked, unseen}
use Rattle.sweep.proofs.asking.look.Goals as goal

pub returns-in-Ok-clause-reported : goal.returns-in-Ok-clause-reported
returns-in-Ok-clause-reported g c x stands good =
    rw c.seen_of.ensures (looked _ c.args.path.now c.in-Ok.bytes c.read.result
    (λ fabric at is. sym c.in-Ok.is ∙ c.get.ensures.reported fabric at is) c.read.ensures.fields x stands good)

pub returns-in-Err-clause-reported : goal.returns-in-Err-clause-reported
returns-in-Err-clause-reported g c x stands good =
    unseen _ c.args.path.now c.in-Err.fault (λ fabric at is. sym c.in-Err.is ∙ c.get.ensures.reported fabric at is) x stands good
