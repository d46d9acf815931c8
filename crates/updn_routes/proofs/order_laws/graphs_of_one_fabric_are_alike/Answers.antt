use Rattle.updn_routes.proofs.OfFabricLemmas.{graphs_of_one_fabric_are_alike}
use Rattle.updn_routes.proofs.order_laws.graphs_of_one_fabric_are_alike.Goals as goal

pub returns : goal.returns
returns c = graphs_of_one_fabric_are_alike
