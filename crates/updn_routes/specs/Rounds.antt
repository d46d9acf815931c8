-- Distances, found in rounds: a round finds the switches that are one cable further than those of the round before.
use Rattle.std.specs.Prelude.{ℕ, ◌≡◌, ◌≤◌, ◌<◌, ◌+◌, Bool, true, false, if◌then◌else◌, List, map, length, get_or, Option, Some, None}
use Rattle.std.specs.List.{list_any, range_with_len}
use Rattle.sweep.specs.Rounds.{is_exactly}
use Rattle.updn_routes.specs.declared.link.Link.{Link}
use Rattle.updn_routes.specs.Cabling.{is_walk, links_of}
use Rattle.updn_routes.specs.Order.{IsDistance}

-- the switch is one of those that are marked
abbrev pub is_marked : List Bool → ℕ → Bool
is_marked marks s = get_or marks s false

-- a marked switch is at distance 0
abbrev pub at_first : Bool → Option ℕ
at_first is = if is then Some 0 else None

-- the distance of a switch, if it is found
abbrev pub found_at : List (Option ℕ) → ℕ → Option ℕ
found_at found s = get_or found s None

-- what a round makes of a switch: one that is not found yet is so if some link leads to a switch at that distance
abbrev pub or_further : Option ℕ → Bool → ℕ → Option ℕ
or_further (Some k) next_to k' = Some k
or_further None next_to k' = if next_to then Some (k' + 1) else None

abbrev pub further : List (List Link) → List (Option ℕ) → ℕ → ℕ → Option ℕ
further rows found k s =
    or_further (found_at found s) (list_any (λ link. is_exactly (found_at found link.to) k) (links_of rows s)) k

abbrev pub spread : List (List Link) → List (Option ℕ) → ℕ → List (Option ℕ)
spread rows found k = map (further rows found k) (range_with_len 0 (length rows))

-- all distances up to k are found, and no others
pub record AreFound (rows : List (List Link)) (passes : ℕ → Bool) (k : ℕ) (found : List (Option ℕ)) : Type 0 where
  pub count : length found ≡ length rows
  pub right : (s j : ℕ) → s < length rows → found_at found s ≡ Some j → IsDistance rows passes s j × (j ≤ k)
  pub no_nearer : (s d : ℕ) (steps : List ℕ) → s < length rows → found_at found s ≡ None → passes d ≡ true
      → is_walk rows s steps d ≡ true → k < length steps
