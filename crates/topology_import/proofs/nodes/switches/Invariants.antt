use Rattle.std.proofs.Common.{◌≡◌}
use Rattle.std.specs.List.{flat_map, range_with_len}
use Rattle.topology_import.specs.Nodes.{switch_at}
use Rattle.topology_import.proofs.nodes.switches.Given as goal

abbrev pub invariant-loop-place : goal.invariant-loop-place
invariant-loop-place l = l.list.items ≡ flat_map (switch_at l.nodes) (range_with_len 0 l.place)
