-- What lies below a switch in the spanning tree, and on which side of a switch another lies.
use Rattle.std.specs.Prelude.{ℕ, zero, suc, ◌≡◌, ◌<◌, ◌-◌, ◌==◌, not, Bool, false, List, length, get_or}
use Rattle.std.specs.Prelude.{Option, Some, option_map, option_and_then}
use Rattle.std.specs.Option.{option_map_or}
use Rattle.updn_routes.specs.declared.link.Link.{Link}
use Rattle.updn_routes.specs.Tree.{tree_link}

-- ---- up the tree
-- the switch that a switch's tree port leads to
abbrev pub parent : List (List Link) → List ℕ → ℕ → Option ℕ
parent rows depths s = option_map (λ link. link.to) (tree_link rows depths s)

-- where so many steps up lead
abbrev pub above : List (List Link) → List ℕ → ℕ → ℕ → Option ℕ
above rows depths zero s = Some s
above rows depths (suc hops) s = option_and_then (above rows depths hops) (parent rows depths s)

-- t is s, or s is on the way up from t: each step leads to a depth one less, so s is as many steps up as t is deeper
abbrev pub is_below : List (List Link) → List ℕ → ℕ → ℕ → Bool
is_below rows depths s t =
    option_map_or (λ top. top == s) (above rows depths (get_or depths t 0 - get_or depths s 0) t) false

-- ---- sides
-- a side of a switch: towards its parent, or towards that child
pub data Side : Type 0 where
  Up : Side
  Down : ℕ → Side

-- s has that side
abbrev pub IsSide : List (List Link) → List ℕ → ℕ → Side → Type 0
IsSide rows depths s Up = (p : ℕ) × (parent rows depths s ≡ Some p)
IsSide rows depths s (Down c) = (parent rows depths c ≡ Some s) × (c < length rows)

-- t lies on that side of s
abbrev pub is_behind : List (List Link) → List ℕ → ℕ → Side → ℕ → Bool
is_behind rows depths s Up t = not (is_below rows depths s t)
is_behind rows depths s (Down c) t = is_below rows depths c t

-- the switch next to s on that side
abbrev pub neighbour : List (List Link) → List ℕ → ℕ → Side → Option ℕ
neighbour rows depths s Up = parent rows depths s
neighbour rows depths s (Down c) = Some c

-- and the side of that one towards s
abbrev pub back : ℕ → Side → Side
back s Up = Down s
back s (Down c) = Up
