use Rattle.std.proofs.Common.{drop}
use Rattle.std.specs.List.{flat_map}
use Rattle.sa_answer.specs.Asked.{paths_reported}
use Rattle.sa_answer.proofs.TakenLemmas.{LeadsTo}
use Rattle.sa_answer.proofs.path.walk.Given as goal

abbrev pub invariant-loop-other : goal.invariant-loop-other
invariant-loop-other l =
    LeadsTo (flat_map (paths_reported l.most l.mask l.asked l.own.port) l.others) l.initial.taken
    (flat_map (paths_reported l.most l.mask l.asked l.own.port) (drop l.other-index l.others)) l.taken
