-- How far the numbers of names are taken. No definition of what is imported stands on this one.
use Rattle.std.specs.Prelude.{ℕ, ◌≡◌, ◌≤◌, ◌<◌, true, List, Some, Vec}
use Rattle.std.specs.Global.{Global}
use Rattle.std.specs.Str.{bytes_eq}
use Rattle.indexmap.specs.IndexMap.{IndexMap, get}
use Rattle.topology_import.specs.declared.planned.Planned.{Planned}
use Rattle.topology_import.specs.Names.{has_name, numbered}

-- each number from 2 up to this one makes a name that a node has
abbrev pub AreTaken : List Planned → List ℕ → ℕ → Type 0
AreTaken nodes name number = (n : ℕ) → 2 ≤ n → n < number → has_name nodes (numbered name n) ≡ true

-- so it is of each name and the number that is noted for it
abbrev pub KnowsTried : {S : Type 0} → IndexMap (Vec ℕ Global) ℕ S → List Planned → Type 0
KnowsTried tried nodes =
    (name : Vec ℕ Global) (number : ℕ) → get (λ a b. bytes_eq a.items b.items) tried name ≡ Some number → AreTaken nodes name.items number
