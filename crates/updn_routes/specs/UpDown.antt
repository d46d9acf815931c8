-- Steps up and down, the paths that are legal, and the numbers of channels.
use Rattle.std.specs.Prelude.{ℕ, ◌+◌, ◌-◌, ◌&&◌, ◌||◌, Bool, true, if◌then◌else◌, List, [], ◌∷◌}
use Rattle.updn_routes.specs.Order.{place_of}

-- the step from s to t goes up if t comes before s, and down if s comes before t
abbrev pub is_up : (ℕ → ℕ → Bool) → ℕ → ℕ → Bool
is_up before s t = before t s

abbrev pub is_down : (ℕ → ℕ → Bool) → ℕ → ℕ → Bool
is_down before s t = before s t

-- each step of the walk from s goes down
abbrev pub goes_down : (ℕ → ℕ → Bool) → ℕ → List ℕ → Bool
goes_down before s [] = true
goes_down before s (t ∷ steps) = is_down before s t && goes_down before t steps

-- no step up comes after a step down: the walk goes up, and then down
abbrev pub is_legal : (ℕ → ℕ → Bool) → ℕ → List ℕ → Bool
is_legal before s [] = true
is_legal before s (t ∷ steps) = (is_up before s t && is_legal before t steps) || goes_down before s (t ∷ steps)

-- the number of the channel from s to t among so many switches: those up are numbered first, from the last switch to
-- the first, and then those down, from the first to the last
abbrev pub channel_number : (ℕ → ℕ → Bool) → ℕ → ℕ → ℕ → ℕ
channel_number before count s t =
    if is_up before s t then count - 1 - place_of before count s else count + place_of before count s

-- those of the channels that a walk from s goes over
abbrev pub channel_numbers : (ℕ → ℕ → Bool) → ℕ → ℕ → List ℕ → List ℕ
channel_numbers before count s [] = []
channel_numbers before count s (t ∷ steps) = channel_number before count s t ∷ channel_numbers before count t steps
