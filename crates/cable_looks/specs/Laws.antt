-- What holds of all steps and rows of the legend: the statements of the laws of `src/laws.rt`.
use Rattle.std.specs.Prelude.{ℕ, ◌≡◌, ◌≤◌, ◌*◌, ◌&&◌, Bool, nat_le, List, [], ◌∷◌, filter}
use Rattle.std.specs.List.{range_with_len}
use Rattle.cable_looks.specs.Steps.{least_of, step_of, top_of}

-- the step of a load is the least number of fifths of the greatest load, from 1 on, that the load does not exceed
pub record CountsFifths (step : (most load : ℕ) → ℕ) : Type 0 where
  pub first : (most load : ℕ) → 1 ≤ step most load
  pub holds : (most load : ℕ) → load ≤ most → load * 5 ≤ most * step most load
  pub least : (most load fifths : ℕ) → 1 ≤ fifths → load * 5 ≤ most * fifths → step most load ≤ fifths

abbrev pub StepsAreFifths : Type 0
StepsAreFifths = CountsFifths step_of

-- a row of the legend says that loads from the least to the top are of its step
abbrev pub has_load : (least top : (most step : ℕ) → ℕ) → (most load step : ℕ) → Bool
has_load least top most load step = nat_le (least most step) load && nat_le load (top most step)

-- each load, up to the greatest, is in one row, which is that of its step
abbrev pub NamesLoads : (least top : (most step : ℕ) → ℕ) → Type 0
NamesLoads least top =
    (most load : ℕ) → load ≤ most → filter (has_load least top most load) (range_with_len 1 5) ≡ step_of most load ∷ []

abbrev pub EachLoadHasOneRow : Type 0
EachLoadHasOneRow = NamesLoads least_of top_of
