use Rattle.topo_file.proofs.LimitLemmas.{limits_are_met}
use Rattle.topo_file.proofs.laws.limits_are_met.Goals as goal

pub returns : goal.returns
returns c = limits_are_met
