use Rattle.updn_routes.proofs.TreeOrderLemmas.{depths_are_alike, trees_are_alike}
use Rattle.updn_routes.proofs.order_laws.trees_are_alike.Goals as goal

pub returns-clause-depths : goal.returns-clause-depths
returns-clause-depths c = depths_are_alike

pub returns-clause-links : goal.returns-clause-links
returns-clause-links c = trees_are_alike
