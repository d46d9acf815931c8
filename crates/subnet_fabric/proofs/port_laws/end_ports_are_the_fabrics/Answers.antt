use Rattle.subnet_fabric.proofs.FabricPortLemmas.{end_ports_are_the_fabrics}
use Rattle.subnet_fabric.proofs.port_laws.end_ports_are_the_fabrics.Goals as goal

pub returns : goal.returns
returns c = end_ports_are_the_fabrics
