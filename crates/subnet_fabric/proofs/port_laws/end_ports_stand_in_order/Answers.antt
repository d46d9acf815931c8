use Rattle.subnet_fabric.proofs.EndPortLemmas.{end_ports_stand_in_order}
use Rattle.subnet_fabric.proofs.port_laws.end_ports_stand_in_order.Goals as goal

pub returns : goal.returns
returns c = end_ports_stand_in_order
