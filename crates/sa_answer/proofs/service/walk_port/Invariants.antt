use Rattle.std.proofs.Common.{drop, map}
use Rattle.std.specs.List.{flat_map}
use Rattle.sa_answer.specs.Offers.{offers_shown, service_bytes, services_reported}
use Rattle.sa_answer.proofs.TakenLemmas.{LeadsTo}
use Rattle.sa_answer.proofs.service.walk_port.Given as goal

abbrev pub invariant-loop-place : goal.invariant-loop-place
invariant-loop-place l =
    LeadsTo (services_reported l.own.port l.mask l.asked l.other) l.initial.taken
    (flat_map (λ place. map service_bytes (offers_shown l.own.port l.mask l.asked l.other.port place)) (drop l.place-index l.place-items)) l.taken
