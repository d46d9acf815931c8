use Rattle.std.proofs.Common.{refl}
use Rattle.updn_routes.proofs.ExistLemmas.{there_are}
use Rattle.updn_routes.proofs.UniqueLemmas.{one_choice}
use Rattle.updn_routes.proofs.laws.one_choice_is_left.Goals as goal

pub returns-clause-some : goal.returns-clause-some
returns-clause-some c = λ rows before pick d cabling order rule less. there_are rows before d cabling order pick rule less

pub returns-clause-one : goal.returns-clause-one
returns-clause-one c = λ rows before pick one other d cabling order first second s less away.
    one_choice rows before d cabling order pick pick (λ u ties low. refl) one other first second s less away
