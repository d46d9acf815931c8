use Rattle.updn_routes.proofs.AlikeLemmas.{none_is_reached_and_refused}
use Rattle.updn_routes.proofs.order_laws.none_is_reached_and_refused.Goals as goal

pub returns : goal.returns
returns c = none_is_reached_and_refused
