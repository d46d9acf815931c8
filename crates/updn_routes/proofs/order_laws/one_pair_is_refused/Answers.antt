use Rattle.updn_routes.proofs.AlikeLemmas.{one_pair_is_refused}
use Rattle.updn_routes.proofs.order_laws.one_pair_is_refused.Goals as goal

pub returns : goal.returns
returns c = one_pair_is_refused
