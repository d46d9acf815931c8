-- The loads of cables in five steps, each with a width and a colour.
use Rattle.std.specs.Prelude.{ℕ, ◌+◌, ◌-◌, ◌*◌, ◌/◌, ◌==◌, Bool, nat_lt, if◌then◌else◌, List, codes, count_by}
use Rattle.std.specs.List.{range_with_len}

-- the greatest load of a step: so many fifths of the greatest of all, rounded down
abbrev pub top_of : (most step : ℕ) → ℕ
top_of most step = most * step / 5

-- the least is one more than the greatest of the step before
abbrev pub least_of : (most step : ℕ) → ℕ
least_of most step = if step == 1 then 0 else top_of most (step - 1) + 1

abbrev pub exceeds : (most load step : ℕ) → Bool
exceeds most load step = nat_lt (top_of most step) load

-- 1, and one more for each step before the last whose greatest load it exceeds
abbrev pub step_of : (most load : ℕ) → ℕ
step_of most load = count_by (exceeds most load) (range_with_len 1 4) + 1

unfoldable pub step_colour : ℕ → List ℕ
step_colour step =
    if step == 1 then codes "gray70"
    else if step == 2 then codes "steelblue"
    else if step == 3 then codes "orange"
    else if step == 4 then codes "orangered"
    else codes "red4"
