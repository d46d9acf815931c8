-- The order that reports up from down: by rank, and if ranks are equal by GUID.
use Rattle.std.specs.Prelude.{ℕ, ◌≡◌, ◌≢◌, ◌==◌, ◌<◌, ◌≤◌, ◌&&◌, ◌||◌, nat_le, nat_lt, Bool, true, false, List, [], ◌∷◌, length, filter, get_or}
use Rattle.std.specs.List.{list_all, list_any, range_with_len}
use Rattle.updn_routes.specs.declared.link.Link.{Link}
use Rattle.updn_routes.specs.Cabling.{is_walk}

-- ---- roots
-- the roots are the switches whose GUIDs are named, and if none is named the switch of least GUID
abbrev pub is_root : List ℕ → List ℕ → ℕ → Bool
is_root guids [] s = list_all (λ guid. nat_le (get_or guids s 0) guid) guids
is_root guids (first ∷ named) s = list_any (λ guid. guid == get_or guids s 0) (first ∷ named)

-- the first root is the one that is named first
abbrev pub is_first_root : List ℕ → List ℕ → ℕ → Bool
is_first_root guids [] s = is_root guids [] s
is_first_root guids (first ∷ named) s = first == get_or guids s 0

-- ---- distances
-- the length of a shortest walk from s to a switch that passes the test
pub record IsDistance (rows : List (List Link)) (passes : ℕ → Bool) (s k : ℕ) : Type 0 where
  pub some : (d : ℕ) × (steps : List ℕ) × (passes d ≡ true) × (is_walk rows s steps d ≡ true) × (length steps ≡ k)
  pub none_shorter : (d : ℕ) (steps : List ℕ) → passes d ≡ true → is_walk rows s steps d ≡ true → k ≤ length steps

-- the distance of each switch, by its number
pub record AreDistances (rows : List (List Link)) (passes : ℕ → Bool) (distances : List ℕ) : Type 0 where
  pub count : length distances ≡ length rows
  pub each : (s : ℕ) → s < length rows → IsDistance rows passes s (get_or distances s 0)

-- a switch's rank is its distance from the nearest root
abbrev pub AreRanks : List (List Link) → List ℕ → List ℕ → List ℕ → Type 0
AreRanks rows guids roots ranks = AreDistances rows (is_root guids roots) ranks

-- ---- the order
-- s comes before t if its rank is less, or the rank is the same and its GUID is less
abbrev pub precedes : List ℕ → List ℕ → ℕ → ℕ → Bool
precedes ranks guids s t =
    nat_lt (get_or ranks s 0) (get_or ranks t 0)
    || ((get_or ranks s 0 == get_or ranks t 0) && nat_lt (get_or guids s 0) (get_or guids t 0))

-- a test that puts so many switches in order: of two, one comes before the other
pub record IsOrder (count : ℕ) (before : ℕ → ℕ → Bool) : Type 0 where
  pub irreflexive : (s : ℕ) → before s s ≡ false
  pub transitive : (s t u : ℕ) → before s t ≡ true → before t u ≡ true → before s u ≡ true
  pub total : (s t : ℕ) → s < count → t < count → s ≢ t → (before s t || before t s) ≡ true

-- the place of a switch in that order, from 0: how many come before it
abbrev pub place_of : (ℕ → ℕ → Bool) → ℕ → ℕ → ℕ
place_of before count s = length (filter (λ t. before t s) (range_with_len 0 count))
