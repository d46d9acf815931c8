use Rattle.updn_routes.proofs.ChoiceLemmas.{next_hops_are_the_fabrics}
use Rattle.updn_routes.proofs.order_laws.next_hops_are_the_fabrics.Goals as goal

pub returns : goal.returns
returns c = next_hops_are_the_fabrics
