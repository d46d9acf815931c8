use Rattle.subnet_core.proofs.ListedLemmas.{a_served_fabric_has_no_idle_bits}
use Rattle.subnet_core.proofs.administration_laws.a_served_fabric_has_no_idle_bits.Goals as goal

pub returns : goal.returns
returns c = a_served_fabric_has_no_idle_bits
