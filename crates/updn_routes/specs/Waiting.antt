-- Channels that wait for one another, which a fabric without a free buffer would do for ever if they stood in a cycle.
use Rattle.std.specs.Prelude.{ℕ, ◌≡◌, true, List, [], ◌∷◌, Option, Some}
use Rattle.updn_routes.specs.declared.link.Link.{Link}
use Rattle.updn_routes.specs.Choice.{is_route}

-- what leaves a switch by a port
pub record Channel : Type 0 where
  pub from : ℕ
  pub port : ℕ

-- a waits for b: the route to some LID goes over a, and then over b; `home` has the switch at which a LID is attached, and `next` the
-- choices for it
pub record WaitsFor (rows : List (List Link)) (home : ℕ → Option ℕ) (next : ℕ → ℕ → Option ℕ) (a b : Channel) : Type 0 where
  pub lid : ℕ
  pub target : ℕ
  pub there : home lid ≡ Some target
  pub beyond : ℕ
  pub steps : List ℕ
  pub over_a : next lid a.from ≡ Some a.port
  pub over_b : next lid b.from ≡ Some b.port
  pub route : is_route rows (next lid) a.from (b.from ∷ beyond ∷ steps) target ≡ true

-- a waits for b over these others, one after the other
abbrev pub WaitsOver : List (List Link) → (ℕ → Option ℕ) → (ℕ → ℕ → Option ℕ) → Channel → List Channel → Channel → Type 0
WaitsOver rows home next a [] b = WaitsFor rows home next a b
WaitsOver rows home next a (c ∷ others) b = WaitsFor rows home next a c × WaitsOver rows home next c others b
