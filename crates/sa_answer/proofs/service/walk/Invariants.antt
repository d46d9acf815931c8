use Rattle.std.proofs.Common.{drop}
use Rattle.std.specs.List.{flat_map}
use Rattle.sa_answer.specs.Offers.{services_reported}
use Rattle.sa_answer.proofs.TakenLemmas.{LeadsTo}
use Rattle.sa_answer.proofs.service.walk.Given as goal

abbrev pub invariant-loop-other : goal.invariant-loop-other
invariant-loop-other l =
    LeadsTo (flat_map (services_reported l.own.port l.mask l.asked) l.others) l.initial.taken
    (flat_map (services_reported l.own.port l.mask l.asked) (drop l.other-index l.others)) l.taken
