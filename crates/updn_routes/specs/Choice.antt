-- Which way a switch sends what is for another switch. A way is a port and a path: the switches to which one comes out
-- of that port, the last of them the target.
use Rattle.std.specs.Prelude.{ℕ, ◌≡◌, ◌≢◌, ◌⊎◌, ◌==◌, ◌<◌, ◌≤◌, not, ◌&&◌, Bool, true, false, List, [], ◌∷◌, length, slice_get, Option, Some, None}
use Rattle.std.specs.List.{list_any}
use Rattle.std.specs.Option.{option_map_or}
use Rattle.updn_routes.specs.declared.link.Link.{Link}
use Rattle.updn_routes.specs.Cabling.{is_walk, leads, rises}
use Rattle.updn_routes.specs.UpDown.{goes_down, is_up}

-- ---- routes
-- the port chosen at s leads to t
abbrev pub follows : List (List Link) → (ℕ → Option ℕ) → ℕ → ℕ → Bool
follows rows next s t = option_map_or (λ port. leads rows s port t) (next s) false

-- the walk that the choices lead from s to d; `next` gives the port that each switch has chosen
abbrev pub is_route : List (List Link) → (ℕ → Option ℕ) → ℕ → List ℕ → ℕ → Bool
is_route rows next s [] d = s == d
is_route rows next s (t ∷ steps) d = not (s == d) && (follows rows next s t && is_route rows next t steps d)

-- ---- ways
-- a way down: out of the port to t, and on to d, all of it down
abbrev pub is_way_down : List (List Link) → (ℕ → ℕ → Bool) → ℕ → ℕ → ℕ → List ℕ → Bool
is_way_down rows before s d port [] = false
is_way_down rows before s d port (t ∷ steps) =
    leads rows s port t && (is_walk rows t steps d && goes_down before s (t ∷ steps))

-- a way up: out of the port to t, one step up, and on by the route of t itself
abbrev pub is_way_up : List (List Link) → (ℕ → ℕ → Bool) → (ℕ → Option ℕ) → ℕ → ℕ → ℕ → List ℕ → Bool
is_way_up rows before next s d port [] = false
is_way_up rows before next s d port (t ∷ steps) =
    leads rows s port t && (is_up before s t && is_route rows next t steps d)

-- ---- the choice
-- the port begins a shortest one of these ways
pub record IsShortestOf (is_way : ℕ → List ℕ → Bool) (port : ℕ) : Type 0 where
  pub path : List ℕ
  pub way : is_way port path ≡ true
  pub shortest : (other : ℕ) (steps : List ℕ) → is_way other steps ≡ true → length path ≤ length steps

-- the ties: all ports that do, in order
pub record AreTies (is_way : ℕ → List ℕ → Bool) (ties : List ℕ) : Type 0 where
  pub rising : rises ties ≡ true
  pub each : (port : ℕ) → list_any (λ tie. tie == port) ties ≡ true → IsShortestOf is_way port
  pub all : (port : ℕ) → IsShortestOf is_way port → list_any (λ tie. tie == port) ties ≡ true

-- the one of them that a rule names: it says which of so many, from 0
pub record IsPickedOf (pick : ℕ → ℕ) (is_way : ℕ → List ℕ → Bool) (port : ℕ) : Type 0 where
  pub ties : List ℕ
  pub are : AreTies is_way ties
  pub picked : slice_get ties (pick (length ties)) ≡ Some port

abbrev pub HasNone : (ℕ → List ℕ → Bool) → Type 0
HasNone is_way = (port : ℕ) (steps : List ℕ) → is_way port steps ≡ false

-- among these ways down and up: down if some way leads down, else up, and nothing if there is none of either
abbrev pub IsChosenOf : (ℕ → ℕ) → (ℕ → List ℕ → Bool) → (ℕ → List ℕ → Bool) → Option ℕ → Type 0
IsChosenOf pick downs ups (Some port) = IsPickedOf pick downs port ⊎ (HasNone downs × IsPickedOf pick ups port)
IsChosenOf pick downs ups None = HasNone downs × HasNone ups

-- what is chosen at s towards d
abbrev pub IsChosen : List (List Link) → (ℕ → ℕ → Bool) → (ℕ → ℕ) → (ℕ → Option ℕ) → ℕ → ℕ → Type 0
IsChosen rows before pick next d s = IsChosenOf pick (is_way_down rows before s d) (is_way_up rows before next s d) (next s)

-- what is chosen at each other switch, by the rule of that switch
abbrev pub AllChosen : List (List Link) → (ℕ → ℕ → Bool) → (ℕ → ℕ → ℕ) → (ℕ → Option ℕ) → ℕ → Type 0
AllChosen rows before pick next d = (s : ℕ) → s < length rows → s ≢ d → IsChosen rows before (pick s) next d s

-- a rule names one of the ties, of however many
abbrev pub IsRule : (ℕ → ℕ → ℕ) → Type 0
IsRule pick = (s ties : ℕ) → 0 < ties → pick s ties < ties

-- the least port, at each switch
abbrev pub least_port : ℕ → ℕ → ℕ
least_port s ties = 0
