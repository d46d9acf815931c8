-- Loops: packets leave by a port, and come round to leave by it again. They never end.
use Rattle.std.specs.Prelude.{ℕ, List, map, filter, flat_map, get_or, Option, option_map}
use Rattle.std.specs.List.{enumerate_from}
use Rattle.fabric_parts.specs.Cable.{port}
use Rattle.fabric_parts.specs.declared.cable.PortRef.{PortRef}
use Rattle.topo_file.specs.Connectivity.{switches}
use Rattle.audit_loops.specs.Cycle.{cycle}
use Rattle.audit_net.specs.Net.{NetState}
use Rattle.audit_multicast.specs.Ways.{comes_to, outs}

-- all ports by which packets to the MLID leave a switch for another one
abbrev pub all_outs : NetState → List (List ℕ) → List PortRef
all_outs net masks = flat_map (λ place. outs net masks (port place 0)) (switches net.plan.nodes)

-- ---- by their places in this list: of each port the places of those by which its packets leave next
abbrev pub nexts : NetState → List PortRef → PortRef → List ℕ
nexts net all a = map (λ p. p.0) (filter (λ p. comes_to net a p.1) (enumerate_from 0 all))

abbrev pub graph_of : NetState → List PortRef → List (List ℕ)
graph_of net all = map (nexts net all) all

-- the loop through the least port that is on one
abbrev pub loop_among : NetState → List PortRef → Option (List PortRef)
loop_among net all = option_map (map (λ place. get_or all place (port 0 0))) (cycle (graph_of net all))

unfoldable pub loop_of : NetState → List (List ℕ) → Option (List PortRef)
loop_of net masks = loop_among net (all_outs net masks)
