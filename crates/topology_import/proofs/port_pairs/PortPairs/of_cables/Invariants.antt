use Rattle.std.proofs.Common.{◌≡◌, take}
use Rattle.std.specs.List.{list_any}
use Rattle.topology_import.specs.PortPairs.{cable_pair, is_same_pair}
use Rattle.topology_import.specs.declared.port_pairs.PortPair.{PortPair}
use Rattle.topology_import.proofs.port_pairs.PortPairs.of_cables.Given as goal

abbrev pub invariant-loop-cable : goal.invariant-loop-cable
invariant-loop-cable l =
    (pair : PortPair) → list_any (is_same_pair pair) l.pairs ≡ list_any (λ cable. is_same_pair pair (cable_pair l.plan.nodes cable)) (take l.cable-index l.plan.cables)
