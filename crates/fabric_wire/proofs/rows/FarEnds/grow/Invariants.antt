use Rattle.std.proofs.Common.{ℕ, ◌+◌, ◌-◌, ◌≡◌, ◌≤◌, length}
use Rattle.fabric_wire.specs.Rows.{far_in_row}
use Rattle.fabric_wire.proofs.rows.FarEnds.grow.Given as goal

abbrev pub invariant-loop-self : goal.invariant-loop-self
invariant-loop-self l =
    ((k : ℕ) → far_in_row l.self-inside.far_ends.items k ≡ far_in_row l.initial.self-inside.far_ends.items k)
    × (length l.initial.self-inside.far_ends.items ≤ length l.self-inside.far_ends.items)

abbrev pub decreases-loop-self : goal.decreases-loop-self
decreases-loop-self l = l.number + 1 - l.self-inside.far_ends.len
