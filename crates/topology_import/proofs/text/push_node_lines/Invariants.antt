use Rattle.std.proofs.Common.{◌≡◌, ◌++◌, take}
use Rattle.std.specs.List.{flat_map}
use Rattle.topology_import.specs.Text.{node_line}
use Rattle.topology_import.proofs.text.push_node_lines.Given as goal

abbrev pub invariant-loop-node : goal.invariant-loop-node
invariant-loop-node l = l.text.items ≡ l.fn.text.items ++ flat_map (node_line l.fn.found l.fn.ends) (take l.node-index l.fn.nodes)
