use Rattle.std.proofs.Common.{refl}
use Rattle.sa_answer.proofs.TakenLemmas.{whole_table}
use Rattle.sa_answer.proofs.taken.table_by.Goals as goal

pub returns-in-All : goal.returns-in-All
returns-in-All c = λ state entries all. (refl, whole_table entries c.in-All.bytes (rw (c.in-All.is, c.in-Ok.is) at all))
