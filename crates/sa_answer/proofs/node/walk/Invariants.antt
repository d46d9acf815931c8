use Rattle.std.proofs.Common.{drop}
use Rattle.std.specs.List.{flat_map}
use Rattle.sa_answer.specs.Asked.{node_reported}
use Rattle.sa_answer.proofs.TakenLemmas.{LeadsTo}
use Rattle.sa_answer.proofs.node.walk.Given as goal

abbrev pub invariant-loop-node : goal.invariant-loop-node
invariant-loop-node l =
    LeadsTo (flat_map (node_reported l.own l.mask l.asked) l.nodes) l.initial.taken (flat_map (node_reported l.own l.mask l.asked) (drop l.node-index l.nodes)) l.taken
