use Rattle.std.proofs.Common.{drop, map}
use Rattle.std.specs.List.{flat_map}
use Rattle.sa_answer.specs.Offers.{offers_of, service_bytes}
use Rattle.sa_answer.proofs.TakenLemmas.{LeadsTo}
use Rattle.sa_answer.proofs.FoundLemmas.{service_reported}
use Rattle.sa_answer.proofs.service.walk_base.Given as goal

abbrev pub invariant-loop-service : goal.invariant-loop-service
invariant-loop-service l =
    LeadsTo (map service_bytes (offers_of l.mask l.asked l.guid l.place)) l.initial.taken
    (flat_map (service_reported l.mask l.asked l.guid l.place.base) (drop l.service-index l.service-items)) l.taken
