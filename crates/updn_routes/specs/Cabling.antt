-- The cables between switches. A cabling is a list of rows, one for each switch, that holds the switch's links. Adapters
-- stand in no row, since no packet passes through one.
use Rattle.std.specs.Prelude.{ℕ, ◌==◌, not, ◌&&◌, nat_lt, Bool, true, List, [], ◌∷◌, map, length, get_or}
use Rattle.std.specs.List.{list_all, list_any, range_with_len}
use Rattle.sweep.specs.Joined.{AreJoinedBy, is_walk_by}
use Rattle.updn_routes.specs.declared.link.Link.{Link}

-- each number is less than all that follow
abbrev pub rises : List ℕ → Bool
rises [] = true
rises (x ∷ xs) = list_all (λ y. nat_lt x y) xs && rises xs

-- the links of a switch
abbrev pub links_of : List (List Link) → ℕ → List Link
links_of rows s = get_or rows s []

-- the ports of a row rise, so that none has two cables, and its links lead to other switches
abbrev pub is_row : ℕ → ℕ → List Link → Bool
is_row count s row =
    rises (map (λ link. link.port) row) && list_all (λ link. nat_lt link.to count && not (link.to == s)) row

abbrev pub is_cabling : List (List Link) → Bool
is_cabling rows = list_all (λ s. is_row (length rows) s (links_of rows s)) (range_with_len 0 (length rows))

-- the port of switch s leads to switch t
abbrev pub leads : List (List Link) → ℕ → ℕ → ℕ → Bool
leads rows s port t = list_any (λ link. (link.port == port) && (link.to == t)) (links_of rows s)

-- some port does
abbrev pub is_next_to : List (List Link) → ℕ → ℕ → Bool
is_next_to rows s t = list_any (λ link. link.to == t) (links_of rows s)

-- a walk goes over cables from switch to switch: its steps are the switches that it comes to, the last of them d
abbrev pub is_walk : List (List Link) → ℕ → List ℕ → ℕ → Bool
is_walk rows = is_walk_by (is_next_to rows)

-- every two switches are joined by a walk
abbrev pub AllJoined : List (List Link) → Type 0
AllJoined rows = AreJoinedBy (is_next_to rows) (length rows)
