-- Wrong rules for steps and rows of the legend, and the law that each breaks.
use Rattle.std.specs.Prelude.{ℕ, ◌+◌, ◌-◌, ◌*◌, ◌/◌}
use Rattle.cable_looks.specs.Laws.{CountsFifths, NamesLoads}
use Rattle.cable_looks.specs.Steps.{top_of}

-- ---- all cables are in red
abbrev pub all_hot : (most load : ℕ) → ℕ
all_hot most load = 5

abbrev pub NotAllAreHot : Type 0
NotAllAreHot = CountsFifths all_hot → ⊥

-- ---- five steps of which the last has the greatest load alone
abbrev pub by_quarters : (most load : ℕ) → ℕ
by_quarters most load = load * 4 / most + 1

abbrev pub StepsAreNotQuarters : Type 0
StepsAreNotQuarters = CountsFifths by_quarters → ⊥

-- ---- each row begins with the last load of the row before
abbrev pub from_top : (most step : ℕ) → ℕ
from_top most step = top_of most (step - 1)

abbrev pub RowsDoNotOverlap : Type 0
RowsDoNotOverlap = NamesLoads from_top top_of → ⊥
