use Rattle.pkey_rules.proofs.key_table.KeyTable.new.Goals as goal
use Rattle.step_results.proofs.ListLemmas.{IsDistinct-nil}
use Rattle.pkey_rules.specs.KeyTable.{same_base}

pub invariant_of-result : goal.invariant_of-result
invariant_of-result g c = rw c.new.ensures (IsDistinct-nil same_base)
