use Rattle.table_push.proofs.ReachLemmas.{port_bit}
use Rattle.table_push.proofs.masks.port_bit.Goals as goal

pub returns-then-number-lt64 : goal.returns-then-number-lt64
returns-then-number-lt64 c number below = rw c.in-Some.is (port_bit c.in-Some.number number c.if-number-lt64.true)
