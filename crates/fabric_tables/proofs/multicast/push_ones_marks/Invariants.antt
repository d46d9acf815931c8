use Rattle.std.proofs.Common.{◌≡◌, ◌++◌}
use Rattle.std.specs.List.{flat_map, range_with_len}
use Rattle.fabric_tables.specs.Multicast.{ones_mark}
use Rattle.fabric_tables.proofs.multicast.push_ones_marks.Given as goal

abbrev pub invariant-loop-number : goal.invariant-loop-number
invariant-loop-number l = l.text.items ≡ l.fn.text.items ++ flat_map ones_mark (range_with_len 0 l.number)
