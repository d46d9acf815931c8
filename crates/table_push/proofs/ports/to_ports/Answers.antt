use Rattle.table_push.proofs.LeadLemmas.{no_fault}
use Rattle.table_push.proofs.ports.to_ports.Goals as goal

pub returns-in-Err-clause-left : goal.returns-in-Err-clause-left
returns-in-Err-clause-left g c x stands of good shows = absurd (no_fault c.in-Err.fault _ x _ (c.in-Err.ensures.left x stands of good shows))

pub returns-clause-left : goal.returns-clause-left
returns-clause-left g c x stands of good shows =
    let first = c.in-Ok.ensures.left x stands of good shows in
    c.to_cables.ensures.left x of good shows first.stands
