use Rattle.std.proofs.Common.{◌≡◌, ◌++◌, take}
use Rattle.std.specs.List.{flat_map}
use Rattle.fabric_graph.specs.Nodes.{lid_line_of}
use Rattle.fabric_graph.proofs.nodes.push_lid_lines.Given as goal

abbrev pub invariant-loop-port : goal.invariant-loop-port
invariant-loop-port l = l.text.items ≡ l.fn.text.items ++ flat_map (lid_line_of l.fn.node) (take l.port-index l.fn.ports)
