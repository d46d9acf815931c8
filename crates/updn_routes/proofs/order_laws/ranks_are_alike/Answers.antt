use Rattle.updn_routes.proofs.AlikeLemmas.{ranks_are_alike}
use Rattle.updn_routes.proofs.order_laws.ranks_are_alike.Goals as goal

pub returns : goal.returns
returns c = ranks_are_alike
