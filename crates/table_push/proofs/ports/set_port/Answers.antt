use Rattle.table_push.proofs.ports.set_port.Goals as goal

pub returns-clause-left : goal.returns-clause-left
returns-clause-left g c x stands guid number good takes = rw c.all_taken.ensures (c.round_at-taken.ensures.left x stands guid number good takes)
