use Rattle.std.proofs.Common.{◌≡◌, filter, take}
use Rattle.std.specs.List.{list_any}
use Rattle.topology_import.specs.Ends.{counts}
use Rattle.topology_import.specs.PortPairs.{is_pair_of, is_same_pair}
use Rattle.topology_import.specs.declared.port_pairs.PortPair.{PortPair}
use Rattle.topology_import.proofs.port_pairs.PortPairs.of_lines.Given as goal

abbrev pub invariant-loop-line : goal.invariant-loop-line
invariant-loop-line l =
    (pair : PortPair) → list_any (is_same_pair pair) l.pairs
    ≡ list_any (is_pair_of l.discovery pair) (filter (counts l.discovery.nodes) (take l.line-index l.discovery.ports))
