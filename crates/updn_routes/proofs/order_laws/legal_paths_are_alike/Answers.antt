use Rattle.updn_routes.proofs.AlikeLemmas.{legal_paths_are_alike}
use Rattle.updn_routes.proofs.order_laws.legal_paths_are_alike.Goals as goal

pub returns : goal.returns
returns c = legal_paths_are_alike
