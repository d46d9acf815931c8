-- Pairs counted by members alone. No definition of what is printed stands on this one.
use Rattle.std.specs.Prelude.{ℕ, ◌+◌, ◌-◌, ◌*◌, ◌/◌}

-- a full member may talk to each other member, two full ones once
abbrev pub pair_count : (members full : ℕ) → ℕ
pair_count members full = full * (full - 1 + 2 * (members - full)) / 2
