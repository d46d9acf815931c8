use Rattle.std.proofs.Common.{◌≡◌, ◌++◌, take}
use Rattle.std.specs.List.{flat_map}
use Rattle.fabric_graph.specs.Partitions.{further_colour}
use Rattle.fabric_graph.proofs.partitions.push_further_colours.Given as goal

abbrev pub invariant-loop-number : goal.invariant-loop-number
invariant-loop-number l = l.text.items ≡ l.fn.text.items ++ flat_map further_colour (take l.number-index l.fn.numbers)
