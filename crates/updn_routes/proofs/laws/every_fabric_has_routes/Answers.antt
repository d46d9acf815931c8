use Rattle.updn_routes.proofs.FabricLemmas.{has_routes}
use Rattle.updn_routes.proofs.laws.every_fabric_has_routes.Goals as goal

pub returns : goal.returns
returns c = has_routes
