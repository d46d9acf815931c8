use Rattle.std.proofs.Common.{◌≡◌, ◌++◌, take}
use Rattle.std.specs.List.{flat_map}
use Rattle.fabric_graph.specs.Lists.{lid_word_of}
use Rattle.fabric_graph.proofs.list_lines.push_lid_words.Given as goal

abbrev pub invariant-loop-port : goal.invariant-loop-port
invariant-loop-port l = l.text.items ≡ l.fn.text.items ++ flat_map (lid_word_of l.fn.node) (take l.port-index l.fn.ports)
