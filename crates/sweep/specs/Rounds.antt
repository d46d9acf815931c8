-- How many cables lead from one switch of a graph to each, found in rounds: a round finds the switches that are one cable
-- further than those of the round before.
use Rattle.std.specs.Prelude.{ℕ, ◌≡◌, ◌≤◌, ◌<◌, ◌+◌, ◌-◌, ◌==◌, ◌&&◌, ◌||◌, ◌⊎◌, nat_le, Bool, true, false, if◌then◌else◌, List, [], length, filter, get_or, Option, Some, None}
use Rattle.std.specs.List.{list_all, list_any, range_with_len}
use Rattle.std.specs.Option.{is_some, option_map_or}
use Rattle.sweep.specs.declared.graph.GraphLink.{GraphLink}
use Rattle.sweep.specs.declared.graph.GraphPort.{GraphPort}
use Rattle.sweep.specs.declared.path.TheConstants.{PATH_HOPS}
use Rattle.sweep.specs.Joined.{is_next_to, is_walk_by}

-- the distance of a switch, if it is found
abbrev pub found_at : List (Option ℕ) → ℕ → Option ℕ
found_at found s = get_or found s None

abbrev pub is_exactly : Option ℕ → ℕ → Bool
is_exactly None k = false
is_exactly (Some j) k = j == k

-- one that is not found yet is at that distance if it is come to
abbrev pub or_further : Option ℕ → Bool → ℕ → Option ℕ
or_further (Some j) come distance = Some j
or_further None come distance = if come then Some distance else None

-- some of these switches at that distance has a link there
abbrev pub is_behind : List (List GraphLink) → List (Option ℕ) → ℕ → List ℕ → ℕ → Bool
is_behind rows found k places t = list_any (λ s. is_exactly (found_at found s) k && is_next_to rows s t) places

-- what a round makes of a switch
abbrev pub further : List (List GraphLink) → List (Option ℕ) → ℕ → ℕ → Option ℕ
further rows found k t = or_further (found_at found t) (is_behind rows found k (range_with_len 0 (length rows)) t) (k + 1)

-- links lead to switches that have a row
abbrev pub AreInside : List (List GraphLink) → Type 0
AreInside rows = (s t : ℕ) → is_next_to rows s t ≡ true → t < length rows

-- a walk of so many steps leads from one switch to the other
abbrev pub IsAway : List (List GraphLink) → ℕ → ℕ → ℕ → Type 0
IsAway rows from t j = (steps : List ℕ) × (is_walk_by (is_next_to rows) from steps t ≡ true) × (length steps ≡ j)

-- a switch is found, no further away than that
abbrev pub IsFoundBy : List (Option ℕ) → ℕ → ℕ → Type 0
IsFoundBy found t most = (j : ℕ) × (found_at found t ≡ Some j) × (j ≤ most)

-- the switches up to distance k are found
pub record AreFound (rows : List (List GraphLink)) (from k : ℕ) (found : List (Option ℕ)) : Type 0 where
  pub count : length found ≡ length rows
  pub start : found_at found from ≡ Some 0
  pub right : (t j : ℕ) → found_at found t ≡ Some j → IsAway rows from t j × (j ≤ k)
  pub step : (s t j : ℕ) → found_at found s ≡ Some j → j < k → is_next_to rows s t ≡ true → IsFoundBy found t (j + 1)
  -- each round finds one at least, or there is none that is as far away
  pub many : (k < length (filter is_some found)) ⊎ ((t : ℕ) → is_exactly (found_at found t) k ≡ false)

-- all that a walk comes to are found, by a shortest
pub record AreDistances (rows : List (List GraphLink)) (from : ℕ) (found : List (Option ℕ)) : Type 0 where
  pub count : length found ≡ length rows
  pub right : (t j : ℕ) → found_at found t ≡ Some j → IsAway rows from t j
  pub least : (t : ℕ) (steps : List ℕ) → is_walk_by (is_next_to rows) from steps t ≡ true → IsFoundBy found t (length steps)

-- ---- what an SMP goes over
abbrev pub is_reached : List (Option ℕ) → ℕ → Bool
is_reached found place = option_map_or (λ j. nat_le j (PATH_HOPS - 2)) (found_at found place) false

abbrev pub is_served : List (Option ℕ) → ℕ → GraphLink → Bool
is_served found place link = is_reached found place || is_reached found link.to.node

abbrev pub are_served : List (List GraphLink) → List (Option ℕ) → Bool
are_served rows found = list_all (λ place. list_all (is_served found place) (get_or rows place [])) (range_with_len 0 (length rows))

-- each switch is found, and each link and port has an end at one that is near
abbrev pub serve : List (List GraphLink) → List GraphPort → List (Option ℕ) → Bool
serve rows ports found =
    list_all is_some found && (are_served rows found && list_all (λ port. is_reached found port.at.node) ports)
