use Rattle.subnet_fabric.proofs.WayLemmas.{ports_stamp_as_reported}
use Rattle.subnet_fabric.proofs.send_laws.ports_stamp_as_reported.Goals as goal

pub returns : goal.returns
returns c = ports_stamp_as_reported
