use Rattle.std.proofs.Common.{drop, map, take}
use Rattle.sa_model.specs.Selected.{few_paths}
use Rattle.sa_answer.specs.Replying.{path_bytes}
use Rattle.sa_answer.proofs.PathLemmas.{agreeing}
use Rattle.sa_answer.proofs.TakenLemmas.{LeadsTo}
use Rattle.sa_answer.proofs.path.walk_to.Given as goal

abbrev pub invariant-loop-key : goal.invariant-loop-key
invariant-loop-key l =
    LeadsTo (map path_bytes (few_paths l.fn.most l.mask l.asked l.own.port l.other)) l.initial.taken
    (map path_bytes (take l.left (agreeing l.mask l.asked l.own.port l.other (drop l.key-index l.key-items)))) l.taken
