use Rattle.std.proofs.Common.{◌≡◌, ◌++◌, ◌-◌, ◌≤◌}
use Rattle.std.specs.List.{flat_map, range_with_len}
use Rattle.fabric_tables.specs.Keys.{facing_line}
use Rattle.fabric_tables.proofs.keys.push_facing_lines.Given as goal

abbrev pub invariant-loop-number : goal.invariant-loop-number
invariant-loop-number l =
    (1 ≤ l.number)
    × (l.text.items ≡ l.fn.text.items ++ flat_map (facing_line l.fn.fabric l.fn.switch l.fn.name l.fn.place) (range_with_len 1 (l.number - 1)))
