use Rattle.updn_routes.proofs.ChoiceLemmas.{choices_are_alike}
use Rattle.updn_routes.proofs.order_laws.choices_are_alike.Goals as goal

pub returns : goal.returns
returns c = choices_are_alike
