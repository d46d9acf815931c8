use Rattle.std.proofs.Common.{length}
use Rattle.updn_routes.specs.Order.{place_of}
use Rattle.updn_routes.proofs.PlaceLemmas.{keeps_order, place_itself}
use Rattle.updn_routes.proofs.PlacedLemmas.{keeps_choices, keeps_walks}
use Rattle.updn_routes.proofs.laws.places_keep_order_and_walks.Goals as goal

pub returns-clause-order : goal.returns-clause-order
returns-clause-order c = keeps_order

pub returns-clause-own : goal.returns-clause-own
returns-clause-own c = place_itself

pub returns-clause-walks : goal.returns-clause-walks
returns-clause-walks c = λ rows placed before cabling order is.
    keeps_walks rows placed before (place_of before (length rows)) cabling (keeps_order (length rows) before order) is

pub returns-clause-choices : goal.returns-clause-choices
returns-clause-choices c = λ rows placed before pick next d cabling order is there chosen.
    keeps_choices rows placed before (place_of before (length rows)) cabling (keeps_order (length rows) before order) is pick next d there chosen
