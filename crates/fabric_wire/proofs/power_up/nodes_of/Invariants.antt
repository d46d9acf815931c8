use Rattle.std.proofs.Common.{◌≡◌, take}
use Rattle.fabric_wire.proofs.OfTopologyLemmas.{nodes_from}
use Rattle.fabric_wire.proofs.power_up.nodes_of.Given as goal

abbrev pub invariant-loop-place : goal.invariant-loop-place
invariant-loop-place l = l.nodes.items ≡ nodes_from l.topology.cables 0 (take l.place l.planned)
