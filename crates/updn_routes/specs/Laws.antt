-- What follows from the definitions alone: the statements of the laws of `src/laws.rt`.
use Rattle.std.specs.Prelude.{ℕ, ◌≡◌, ◌≢◌, ◌↔◌, ◌==◌, ◌+◌, ◌*◌, ◌<◌, ◌≤◌, ◌&&◌, nat_lt, Bool, true, false}
use Rattle.std.specs.Prelude.{List, length, map, get_or, Option, Some, None}
use Rattle.std.specs.List.{list_all, IsDistinct}
use Rattle.updn_routes.specs.declared.link.Link.{Link}
use Rattle.updn_routes.specs.Cabling.{AllJoined, is_cabling, is_walk, leads, rises}
use Rattle.updn_routes.specs.Choice.{AllChosen, IsRule, is_route}
use Rattle.updn_routes.specs.Fabric.{HasRoutes, IsFabric}
use Rattle.updn_routes.specs.Order.{AreDistances, IsDistance, IsOrder, is_first_root, place_of, precedes}
use Rattle.updn_routes.specs.Places.{IsPlaced}
use Rattle.updn_routes.specs.Sides.{IsSide, Side, above, back, is_behind, is_below, neighbour, parent}
use Rattle.updn_routes.specs.Tree.{AreDepths, tree_port}
use Rattle.updn_routes.specs.UpDown.{channel_numbers, goes_down, is_legal}
use Rattle.updn_routes.specs.Waiting.{Channel, WaitsOver}

-- ---- ranks and the order
-- if cables join all switches, and some switch passes the test, each has a distance from those that pass
abbrev pub JoinedSwitchesHaveDistances : Type 0
JoinedSwitchesHaveDistances =
    (rows : List (List Link)) (passes : ℕ → Bool) (root : ℕ)
    → AllJoined rows → root < length rows → passes root ≡ true
    → (distances : List ℕ) × AreDistances rows passes distances

-- and no switch has two
abbrev pub OneDistanceIsLeft : Type 0
OneDistanceIsLeft =
    (rows : List (List Link)) (passes : ℕ → Bool) (s one other : ℕ)
    → IsDistance rows passes s one → IsDistance rows passes s other → one ≡ other

-- whatever the ranks, switches of which no two have one GUID stand in order
abbrev pub RanksAndGuidsOrder : Type 0
RanksAndGuidsOrder =
    (ranks guids : List ℕ) → IsDistinct (λ a b. a == b) guids → IsOrder (length guids) (precedes ranks guids)

-- ---- fabrics
-- every fabric has ranks, depths and choices
abbrev pub EveryFabricHasRoutes : Type 0
EveryFabricHasRoutes =
    (rows : List (List Link)) (guids roots : List ℕ) → IsFabric rows guids roots → HasRoutes rows guids roots

-- ---- routes
-- these steps from s are where the choices lead; they arrive, up and then down, over channels whose numbers rise, and
-- they are fewer than twice as many as there are switches
pub record LeadsHome (rows : List (List Link)) (before : ℕ → ℕ → Bool) (next : ℕ → Option ℕ) (s d : ℕ)
    (steps : List ℕ) : Type 0 where
  pub route : is_route rows next s steps d ≡ true
  pub legal : is_legal before s steps ≡ true
  pub rising : rises (channel_numbers before (length rows) s steps) ≡ true
  pub short : length steps < 2 * length rows

-- if a port is chosen, following the choices leads home; if none is chosen, there is no legal walk at all
pub record IsSettled (rows : List (List Link)) (before : ℕ → ℕ → Bool) (next : ℕ → Option ℕ) (s d : ℕ) : Type 0 where
  pub arrives : (port : ℕ) → next s ≡ Some port → (steps : List ℕ) × LeadsHome rows before next s d steps
  pub none : next s ≡ None → (steps : List ℕ) → (is_walk rows s steps d && is_legal before s steps) ≡ false

-- whatever the order of the switches, and the rule of ties
abbrev pub ChoicesLeadHome : Type 0
ChoicesLeadHome =
    (rows : List (List Link)) (before : ℕ → ℕ → Bool) (pick : ℕ → ℕ → ℕ) (next : ℕ → Option ℕ) (d : ℕ)
    → is_cabling rows ≡ true → IsOrder (length rows) before → AllChosen rows before pick next d
    → (s : ℕ) → s < length rows → s ≢ d → IsSettled rows before next s d

-- towards every target there are choices that obey the definition, for each rule of ties
abbrev pub ChoicesThereAre : Type 0
ChoicesThereAre =
    (rows : List (List Link)) (before : ℕ → ℕ → Bool) (pick : ℕ → ℕ → ℕ) (d : ℕ)
    → is_cabling rows ≡ true → IsOrder (length rows) before → IsRule pick → d < length rows
    → (next : ℕ → Option ℕ) × AllChosen rows before pick next d

-- choices that both obey the definition, by one rule, are the same
abbrev pub OneChoiceIsLeft : Type 0
OneChoiceIsLeft =
    (rows : List (List Link)) (before : ℕ → ℕ → Bool) (pick : ℕ → ℕ → ℕ) (one other : ℕ → Option ℕ) (d : ℕ)
    → is_cabling rows ≡ true → IsOrder (length rows) before
    → AllChosen rows before pick one d → AllChosen rows before pick other d
    → (s : ℕ) → s < length rows → s ≢ d → one s ≡ other s

-- with choices for each LID, each by a rule of its own, no channel waits, over others, for itself
abbrev pub NoCycleWaits : Type 0
NoCycleWaits =
    (rows : List (List Link)) (before : ℕ → ℕ → Bool) (home : ℕ → Option ℕ) (pick : ℕ → ℕ → ℕ → ℕ) (next : ℕ → ℕ → Option ℕ)
    → is_cabling rows ≡ true → IsOrder (length rows) before
    → ((lid d : ℕ) → home lid ≡ Some d → AllChosen rows before (pick lid) (next lid) d)
    → (a : Channel) (others : List Channel) → ¬ (WaitsOver rows home next a others a)

-- if some walk leads down all the way, the route goes down all the way too, and no such walk is shorter: so a step
-- up is taken only if none does
abbrev pub WaysDownComeFirst : Type 0
WaysDownComeFirst =
    (rows : List (List Link)) (before : ℕ → ℕ → Bool) (pick : ℕ → ℕ → ℕ) (next : ℕ → Option ℕ) (d : ℕ)
    → is_cabling rows ≡ true → IsOrder (length rows) before → AllChosen rows before pick next d
    → (s : ℕ) (route walk : List ℕ) → s < length rows → is_route rows next s route d ≡ true
    → is_walk rows s walk d ≡ true → goes_down before s walk ≡ true
    → (goes_down before s route ≡ true) × (length route ≤ length walk)

-- ---- the tree
-- the port leads to a switch of depth one less, and no lesser port does
pub record IsTreePort (rows : List (List Link)) (depths : List ℕ) (s port : ℕ) : Type 0 where
  pub parent : ℕ
  pub link : leads rows s port parent ≡ true
  pub nearer : get_or depths parent 0 + 1 ≡ get_or depths s 0
  pub least : (other t : ℕ) → leads rows s other t ≡ true → get_or depths t 0 + 1 ≡ get_or depths s 0 → port ≤ other

-- the first root has no tree port, and every other switch one; following them leads to the first root, in as many
-- steps as the switch is deep
pub record IsInTheTree (rows : List (List Link)) (is_first : ℕ → Bool) (depths : List ℕ) (s : ℕ) : Type 0 where
  pub top : is_first s ≡ true → tree_port rows depths s ≡ None
  pub below : is_first s ≡ false → (port : ℕ) × (tree_port rows depths s ≡ Some port) × IsTreePort rows depths s port
  pub first : ℕ
  pub steps : List ℕ
  pub first_is : is_first first ≡ true
  pub leads_there : is_route rows (tree_port rows depths) s steps first ≡ true
  pub as_deep : length steps ≡ get_or depths s 0

abbrev pub TheTreeLeadsToTheFirstRoot : Type 0
TheTreeLeadsToTheFirstRoot =
    (rows : List (List Link)) (guids roots depths : List ℕ)
    → is_cabling rows ≡ true → AreDepths rows guids roots depths
    → (s : ℕ) → s < length rows → IsInTheTree rows (is_first_root guids roots) depths s

-- ---- the sides of the tree
-- a switch is below itself and below a first root; what is below one that is below another is below that other; and what
-- is below a switch, and is not that switch, is below one child of it
pub record IsSided (rows : List (List Link)) (is_first : ℕ → Bool) (depths : List ℕ) : Type 0 where
  pub meant : (s t : ℕ) → t < length rows
      → (is_below rows depths s t ≡ true) ↔ ((hops : ℕ) × (above rows depths hops t ≡ Some s))
  pub nearer : (s p : ℕ) → s < length rows → parent rows depths s ≡ Some p
      → (p < length rows) × (get_or depths p 0 + 1 ≡ get_or depths s 0)
  pub top : (s : ℕ) → s < length rows → (is_first s ≡ true) ↔ (parent rows depths s ≡ None)
  pub first : (t : ℕ) → t < length rows → (first : ℕ) × (is_first first ≡ true) × (is_below rows depths first t ≡ true)
  pub itself : (s : ℕ) → s < length rows → is_below rows depths s s ≡ true
  pub further : (a b c : ℕ) → c < length rows → is_below rows depths a b ≡ true → is_below rows depths b c ≡ true
      → is_below rows depths a c ≡ true
  -- a switch is below one switch at most of each depth
  pub one : (a b t : ℕ) → t < length rows → get_or depths a 0 ≡ get_or depths b 0
      → is_below rows depths a t ≡ true → is_below rows depths b t ≡ true → a ≡ b
  pub upward : (s p : ℕ) → s < length rows → parent rows depths s ≡ Some p → is_below rows depths s p ≡ false
  pub child : (s t : ℕ) → t < length rows → is_below rows depths s t ≡ true → s ≢ t
      → (c : ℕ) × (parent rows depths c ≡ Some s) × (is_below rows depths c t ≡ true)

abbrev pub TheTreeHasSides : Type 0
TheTreeHasSides =
    (rows : List (List Link)) (guids roots depths : List ℕ)
    → is_cabling rows ≡ true → AreDepths rows guids roots depths → IsSided rows (is_first_root guids roots) depths

-- a switch's sides part the other switches: each is behind one of them; and for the neighbour on a side, the switch and all
-- that is behind its other sides are behind the side that leads back
pub record SidesPart (rows : List (List Link)) (depths : List ℕ) (s : ℕ) : Type 0 where
  pub not_itself : (q : Side) → IsSide rows depths s q → is_behind rows depths s q s ≡ false
  pub back_is : (n : Side) (far : ℕ) → IsSide rows depths s n → neighbour rows depths s n ≡ Some far
      → IsSide rows depths far (back s n) × (is_behind rows depths far (back s n) s ≡ true)
  pub onward : (q n : Side) (far t : ℕ) → t < length rows → IsSide rows depths s q → IsSide rows depths s n → q ≢ n
      → neighbour rows depths s n ≡ Some far → is_behind rows depths s q t ≡ true
      → is_behind rows depths far (back s n) t ≡ true
  pub some : (t : ℕ) → t < length rows → t ≢ s
      → (q : Side) × IsSide rows depths s q × (is_behind rows depths s q t ≡ true)
  pub one : (q n : Side) (t : ℕ) → t < length rows → IsSide rows depths s q → IsSide rows depths s n
      → is_behind rows depths s q t ≡ true → is_behind rows depths s n t ≡ true → q ≡ n

-- if no two switches have one GUID, since then there is one first root
abbrev pub SidesPartTheTree : Type 0
SidesPartTheTree =
    (rows : List (List Link)) (guids roots depths : List ℕ)
    → is_cabling rows ≡ true → AreDepths rows guids roots depths
    → IsDistinct (λ a b. a == b) guids → length guids ≡ length rows
    → (s : ℕ) → s < length rows → SidesPart rows depths s

-- ---- places
-- places are below the number of switches, less if and only if the switch comes before, and no two switches have one
pub record KeepsTheOrder (count : ℕ) (before : ℕ → ℕ → Bool) (place : ℕ → ℕ) : Type 0 where
  pub below : (s : ℕ) → s < count → place s < count
  pub less : (s t : ℕ) → s < count → t < count → nat_lt (place s) (place t) ≡ before s t
  pub own : (s t : ℕ) → s < count → t < count → place s ≡ place t → s ≡ t

abbrev pub PlacesKeepTheOrder : Type 0
PlacesKeepTheOrder =
    (count : ℕ) (before : ℕ → ℕ → Bool) → IsOrder count before → KeepsTheOrder count before (place_of before count)

-- the place of a place, among those that are less, is itself
abbrev pub PlacesAreTheirOwn : Type 0
PlacesAreTheirOwn = (count place : ℕ) → place < count → place_of nat_lt count place ≡ place

-- a walk between switches is one between their places, by the same ports, and as legal, and between these there is no
-- other
pub record KeepsTheWalks (rows placed : List (List Link)) (before : ℕ → ℕ → Bool) (place : ℕ → ℕ) : Type 0 where
  pub links : (s port t : ℕ) → s < length rows → t < length rows
      → leads placed (place s) port (place t) ≡ leads rows s port t
  pub walks : (s d : ℕ) (steps : List ℕ) → s < length rows → d < length rows
      → list_all (λ t. nat_lt t (length rows)) steps ≡ true
      → is_walk placed (place s) (map place steps) (place d) ≡ is_walk rows s steps d
  pub no_other : (s d : ℕ) (steps : List ℕ) → s < length rows → d < length rows
      → is_walk placed (place s) steps (place d) ≡ true
      → (between : List ℕ) × (map place between ≡ steps) × (is_walk rows s between d ≡ true)
  pub legal : (s d : ℕ) (steps : List ℕ) → s < length rows → is_walk rows s steps d ≡ true
      → is_legal nat_lt (place s) (map place steps) ≡ is_legal before s steps

abbrev pub PlacesKeepTheWalks : Type 0
PlacesKeepTheWalks =
    (rows placed : List (List Link)) (before : ℕ → ℕ → Bool)
    → is_cabling rows ≡ true → IsOrder (length rows) before → IsPlaced rows (place_of before (length rows)) placed
    → KeepsTheWalks rows placed before (place_of before (length rows))

-- what is chosen between places, of which the lesser is before, is chosen between the switches that stand there
abbrev pub PlacesKeepTheChoices : Type 0
PlacesKeepTheChoices =
    (rows placed : List (List Link)) (before : ℕ → ℕ → Bool) (pick : ℕ → ℕ → ℕ) (next : ℕ → Option ℕ) (d : ℕ)
    → is_cabling rows ≡ true → IsOrder (length rows) before → IsPlaced rows (place_of before (length rows)) placed
    → d < length rows → AllChosen placed nat_lt pick next (place_of before (length rows) d)
    → AllChosen rows before (λ s. pick (place_of before (length rows) s)) (λ s. next (place_of before (length rows) s)) d
