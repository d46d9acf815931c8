-- Routes of a whole subnet: by LIDs, with the port at which each LID is attached.
use Rattle.std.specs.Prelude.{ℕ, ◌≡◌, ◌≢◌, ◌⊎◌, ◌+◌, ◌-◌, ◌*◌, ◌<◌, ◌≤◌, ◌==◌, not, ◌&&◌, nat_lt, Bool, true, false, if◌then◌else◌, List, [], filter, length, get_or, slice_get, Option, Some, None, option_map, is_none}
use Rattle.std.specs.List.{list_all, list_any}
use Rattle.std.specs.Option.{option_and_then, option_map_or}
use Rattle.fabric_parts.specs.declared.cable.PortRef.{PortRef}
use Rattle.updn_routes.specs.declared.link.Link.{Link}
use Rattle.updn_routes.specs.declared.table.NextHop.{NextHop}
use Rattle.updn_routes.specs.declared.tie_rule.TieRule.{TieRule}
use Rattle.updn_routes.specs.Cabling.{is_cabling, is_next_to, is_walk, links_of, rises}
use Rattle.updn_routes.specs.Choice.{AllChosen, is_route, least_port}
use Rattle.updn_routes.specs.Order.{AreRanks, IsOrder, precedes}
use Rattle.updn_routes.specs.Tables.{entry_at, place_at, places_of}
use Rattle.updn_routes.specs.Ties.{numbers_of, tie_of}
use Rattle.updn_routes.specs.Tree.{AreDepths}
use Rattle.updn_routes.specs.UpDown.{channel_number, channel_numbers, is_legal}
use Rattle.fabric_parts.specs.declared.limits.TheConstants.{SWITCHES}
use Rattle.fabric_parts.specs.declared.lid.TheConstants.{LAST_UNICAST_LID}

-- the switches' links, GUIDs, ranks and depths, each by the number of the switch; the place of each in the order, and
-- for the target at each place its table by places; where each LID is attached, from LID 1 on; and the rule of ties, with the numbers
-- that it asks for
pub record SwitchRoutesState : Type 0 where
  pub rows : List (List Link)
  pub guids : List ℕ
  pub ranks : List ℕ
  pub depths : List ℕ
  pub places : List ℕ
  pub tables : List (List (Option NextHop))
  pub homes : List PortRef
  pub rule : TieRule
  pub numbers : List ℕ

-- the routes of these parts
abbrev pub routes_with : List (List Link) → List ℕ → List ℕ → List ℕ → List ℕ → List (List (Option NextHop)) → List PortRef → TieRule → List ℕ
    → SwitchRoutesState
routes_with rows guids ranks depths places tables homes rule numbers =
    record { rows = rows; guids = guids; ranks = ranks; depths = depths; places = places; tables = tables; homes = homes; rule = rule; numbers = numbers }

-- ---- LIDs
-- where a LID is attached: the port of a switch that has a cable to the adapter's port, and 0 of a switch for its own LID
abbrev pub home_of : List PortRef → ℕ → Option PortRef
home_of homes lid = if lid == 0 then None else slice_get homes (lid - 1)

-- ---- what routes answer
abbrev pub order_of : SwitchRoutesState → ℕ → ℕ → Bool
order_of routes = precedes routes.ranks routes.guids

-- the table towards the switch d, and what it holds for s
abbrev pub table_towards : SwitchRoutesState → ℕ → List (Option NextHop)
table_towards routes d = get_or routes.tables (place_at routes.places d) []

abbrev pub hop_towards : SwitchRoutesState → ℕ → ℕ → Option NextHop
hop_towards routes d s = entry_at (table_towards routes d) (place_at routes.places s)

-- the least port that may be chosen at s towards the switch d, and 0 if it is s
abbrev pub port_towards : SwitchRoutesState → ℕ → ℕ → Option ℕ
port_towards routes d s = option_map (λ hop. hop.port) (hop_towards routes d s)

-- ---- ties
-- from a place, a link to another place is as short as that hop and of its kind: down all the way, or up
abbrev pub is_as_short : NextHop → (from to : ℕ) → NextHop → Bool
is_as_short own from to beyond =
    (if own.falls then nat_lt from to && beyond.falls else nat_lt to from) && (beyond.hops + 1 == own.hops)

abbrev pub is_tie : SwitchRoutesState → (d s : ℕ) → NextHop → Link → Bool
is_tie routes d s own link =
    option_map_or (is_as_short own (place_at routes.places s) (place_at routes.places link.to)) (hop_towards routes d link.to) false

-- the links of s that are ties towards d
abbrev pub ties_by : SwitchRoutesState → (d s : ℕ) → NextHop → List Link
ties_by routes d s own = filter (is_tie routes d s own) (links_of routes.rows s)

-- the port of one of them, from 0
abbrev pub nth_tie : SwitchRoutesState → (d s : ℕ) → NextHop → ℕ → Option ℕ
nth_tie routes d s own tie = option_map (λ link. link.port) (slice_get (ties_by routes d s own) tie)

-- which of so many ties s takes for a LID
abbrev pub tie_at : SwitchRoutesState → (lid s ties : ℕ) → ℕ
tie_at routes lid s ties = tie_of routes.rule (get_or routes.numbers (lid - 1) 0) (get_or routes.ranks s 0) (place_at routes.places s) ties

abbrev pub tie_towards : SwitchRoutesState → (lid d s : ℕ) → Option ℕ
tie_towards routes lid d s =
    option_and_then (λ own. nth_tie routes d s own (tie_at routes lid s (length (ties_by routes d s own)))) (hop_towards routes d s)

-- ---- next hops
-- the port by which s sends what is for a LID that is attached there
abbrev pub hop_to : SwitchRoutesState → (lid s : ℕ) → Option PortRef → Option ℕ
hop_to routes lid s None = None
hop_to routes lid s (Some home) = if home.node == s then Some home.port else tie_towards routes lid home.node s

abbrev pub next_hop : SwitchRoutesState → ℕ → ℕ → Option ℕ
next_hop routes s lid = hop_to routes lid s (home_of routes.homes lid)

-- the number of the channel between two switches that are side by side
abbrev pub number_of : SwitchRoutesState → ℕ → ℕ → Option ℕ
number_of routes s t =
    if is_next_to routes.rows s t then Some (channel_number (order_of routes) (length routes.rows) s t) else None

-- ---- what holds of all routes
abbrev pub all_attached : List PortRef → ℕ → Bool
all_attached homes count = list_all (λ home. nat_lt home.node count) homes

pub record AreRoutes (routes : SwitchRoutesState) : Type 0 where
  pub cabling : is_cabling routes.rows ≡ true
  pub count : length routes.guids ≡ length routes.rows
  pub order : IsOrder (length routes.rows) (order_of routes)
  pub places : routes.places ≡ places_of routes.ranks routes.guids
  pub numbers : routes.numbers ≡ numbers_of routes.rule routes.places routes.homes
  pub hang : all_attached routes.homes (length routes.rows) ≡ true
  pub few : length routes.rows ≤ SWITCHES
  pub few_lids : length routes.homes ≤ LAST_UNICAST_LID
  -- towards each switch the least port, and for each LID the tie that the rule names
  pub least : (d : ℕ) → d < length routes.rows → AllChosen routes.rows (order_of routes) least_port (port_towards routes d) d
  pub chosen : (lid d port : ℕ) → home_of routes.homes lid ≡ Some (record { node = d; port = port })
      → AllChosen routes.rows (order_of routes) (tie_at routes lid) (λ s. next_hop routes s lid) d
  pub at_home : (d : ℕ) → d < length routes.rows → port_towards routes d d ≡ Some 0

-- the routes of this cabling, with these roots named, whatever their rule of ties
pub record AreRoutesOf (rows : List (List Link)) (guids roots : List ℕ) (homes : List PortRef) (routes : SwitchRoutesState) : Type 0 where
  pub rows_are : routes.rows ≡ rows
  pub guids_are : routes.guids ≡ guids
  pub homes_are : routes.homes ≡ homes
  pub ranks_are : AreRanks rows guids roots routes.ranks
  pub depths_are : AreDepths rows guids roots routes.depths

-- ---- following them
-- these steps from s are where a LID's next hops lead: to the switch d at which it is attached, and there out of its port
pub record LeadsToLid (routes : SwitchRoutesState) (lid s d port : ℕ) (steps : List ℕ) : Type 0 where
  pub route : is_route routes.rows (λ t. next_hop routes t lid) s steps d ≡ true
  pub legal : is_legal (order_of routes) s steps ≡ true
  pub rising : rises (channel_numbers (order_of routes) (length routes.rows) s steps) ≡ true
  pub short : length steps + 1 ≤ 2 * length routes.rows
  pub out : next_hop routes d lid ≡ Some port

-- a LID that is attached at port of d, seen from s: with a next hop, following these leads there; with none, no up/down path does
pub record IsRouted (routes : SwitchRoutesState) (lid s d port : ℕ) : Type 0 where
  pub arrives : (first : ℕ) → next_hop routes s lid ≡ Some first → (steps : List ℕ) × LeadsToLid routes lid s d port steps
  pub none : next_hop routes s lid ≡ None
      → (steps : List ℕ) → (is_walk routes.rows s steps d && is_legal (order_of routes) s steps) ≡ false

abbrev pub AllRouted : SwitchRoutesState → ℕ → ℕ → Type 0
AllRouted routes s lid =
    (d port : ℕ) → s < length routes.rows → home_of routes.homes lid ≡ Some (record { node = d; port = port })
    → IsRouted routes lid s d port

-- ---- what has no route
-- some LID is attached to a port of the switch: an adapter's port does
abbrev pub carries : List PortRef → ℕ → Bool
carries homes s = list_any (λ home. not (home.port == 0) && (home.node == s)) homes

-- a is the LID of a switch that carries adapters' ports, and b that of an adapter's port
pub record IsPair (homes : List PortRef) (a b s d : ℕ) : Type 0 where
  pub port : ℕ
  pub switch : home_of homes a ≡ Some (record { node = s; port = 0 })
  pub carried : carries homes s ≡ true
  pub adapter : home_of homes b ≡ Some (record { node = d; port = port })
  pub is_port : port ≢ 0

abbrev pub LegalPath : List (List Link) → (ℕ → ℕ → Bool) → ℕ → ℕ → Type 0
LegalPath rows before s d = (steps : List ℕ) × ((is_walk rows s steps d && is_legal before s steps) ≡ true)

abbrev pub NoLegalPath : List (List Link) → (ℕ → ℕ → Bool) → ℕ → ℕ → Type 0
NoLegalPath rows before s d = (steps : List ℕ) → (is_walk rows s steps d && is_legal before s steps) ≡ false

-- each pair has an up/down path
abbrev pub AllReached : List (List Link) → (ℕ → ℕ → Bool) → List PortRef → Type 0
AllReached rows before homes = (a b s d : ℕ) → IsPair homes a b s d → LegalPath rows before s d

-- this one has none, and each earlier one, by the switch's LID and then by the port's, has one
pub record IsFirstUnreached (rows : List (List Link)) (before : ℕ → ℕ → Bool) (homes : List PortRef) (a b : ℕ) : Type 0 where
  pub s : ℕ
  pub d : ℕ
  pub pair : IsPair homes a b s d
  pub gone : NoLegalPath rows before s d
  pub earlier : (a' b' s' d' : ℕ) → IsPair homes a' b' s' d' → (a' < a) ⊎ ((a' ≡ a) × (b' < b)) → LegalPath rows before s' d'

-- ---- as they are found
-- no port is chosen there towards where that port is attached
abbrev pub is_gap : SwitchRoutesState → ℕ → PortRef → Bool
is_gap routes s to = not (to.port == 0) && is_none (port_towards routes to.node s)

abbrev pub has_gap : SwitchRoutesState → PortRef → Bool
has_gap routes from =
    (from.port == 0) && (carries routes.homes from.node && list_any (is_gap routes from.node) routes.homes)
