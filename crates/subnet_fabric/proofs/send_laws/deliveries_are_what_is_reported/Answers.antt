use Rattle.subnet_fabric.proofs.WayLemmas.{deliveries_are_what_is_reported}
use Rattle.subnet_fabric.proofs.send_laws.deliveries_are_what_is_reported.Goals as goal

pub returns : goal.returns
returns c = deliveries_are_what_is_reported
