-- The order of the lines: those of the greatest load first, those of one load in the order of switches and ports.
use Rattle.std.specs.Prelude.{ℕ, zero, suc, ◌==◌, Bool, List, ◌++◌, filter}
use Rattle.audit_loads.specs.declared.loaded.Loaded.{Loaded}
use Rattle.audit_loads.specs.Loads.{most_of}

abbrev pub has_load : ℕ → Loaded → Bool
has_load load one = one.load == load

-- those of this load, and then those of less
abbrev pub from_load : List Loaded → ℕ → List Loaded
from_load all zero = filter (has_load 0) all
from_load all (suc load) = filter (has_load (suc load)) all ++ from_load all load

abbrev pub ordered : List Loaded → List Loaded
ordered all = from_load all (most_of all)
