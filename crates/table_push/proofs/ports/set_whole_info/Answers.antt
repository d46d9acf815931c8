use Rattle.table_push.proofs.ports.set_whole_info.Goals as goal

pub returns-clause-left : goal.returns-clause-left
returns-clause-left g c x stands next good takes gives = rw c.all_taken.ensures (c.set_info-taken.ensures.left x stands next good takes gives)
