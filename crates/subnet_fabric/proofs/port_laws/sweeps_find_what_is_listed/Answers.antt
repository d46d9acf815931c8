use Rattle.subnet_fabric.proofs.GraphPortLemmas.{sweeps_find_what_is_listed}
use Rattle.subnet_fabric.proofs.port_laws.sweeps_find_what_is_listed.Goals as goal

pub returns : goal.returns
returns c = sweeps_find_what_is_listed
