use Rattle.table_push.proofs.IdleBitLemmas.{brought_up_has_no_idle_bits}
use Rattle.table_push.proofs.laws.brought_up_has_no_idle_bits.Goals as goal

pub returns : goal.returns
returns c = brought_up_has_no_idle_bits
