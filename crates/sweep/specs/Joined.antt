-- When the links of a graph join all its switches, in whatever order these stand.
use Rattle.std.specs.Prelude.{ℕ, ◌≡◌, ◌==◌, ◌<◌, ◌&&◌, Bool, true, List, [], ◌∷◌, length, get_or}
use Rattle.std.specs.List.{list_any}
use Rattle.sweep.specs.declared.graph.GraphLink.{GraphLink}

-- a walk from switch to switch, by a test of which is next to which: its steps are the switches that it comes to, the last
-- of them d
abbrev pub is_walk_by : (ℕ → ℕ → Bool) → ℕ → List ℕ → ℕ → Bool
is_walk_by next s [] d = s == d
is_walk_by next s (t ∷ steps) d = next s t && is_walk_by next t steps d

-- every two of so many switches are joined by a walk
abbrev pub AreJoinedBy : (ℕ → ℕ → Bool) → ℕ → Type 0
AreJoinedBy next count = (s d : ℕ) → s < count → d < count → (steps : List ℕ) × (is_walk_by next s steps d ≡ true)

-- some link of switch s leads to switch t
abbrev pub is_next_to : List (List GraphLink) → ℕ → ℕ → Bool
is_next_to rows s t = list_any (λ link. link.to.node == t) (get_or rows s [])

abbrev pub AllJoined : List (List GraphLink) → Type 0
AllJoined rows = AreJoinedBy (is_next_to rows) (length rows)
