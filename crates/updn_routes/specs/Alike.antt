-- When two cablings differ in the order of their switches alone.
use Rattle.std.specs.Prelude.{ℕ, ◌≡◌, ◌<◌, nat_lt, true, List, get_or, length, map}
use Rattle.std.specs.List.{list_all}
use Rattle.fabric_parts.specs.declared.cable.PortRef.{PortRef}
use Rattle.sweep.specs.Graph.{GraphState}
use Rattle.updn_routes.specs.Cabling.{links_of}
use Rattle.updn_routes.specs.Places.{placed_link}
use Rattle.updn_routes.specs.Routes.{all_attached}
use Rattle.updn_routes.specs.Subnet.{guids_of, homes_of, rows_of}
use Rattle.updn_routes.specs.declared.link.Link.{Link}

-- a cabling, with the GUIDs of its switches and where each LID is attached
pub record Layout : Type 0 where
  pub rows : List (List Link)
  pub guids : List ℕ
  pub homes : List PortRef

-- that of a graph, by its LIDs
abbrev pub layout_of : GraphState → List ℕ → Layout
layout_of graph lids = record { rows = rows_of graph; guids = guids_of graph; homes = homes_of graph lids }

-- there is a GUID for each switch, and links and LIDs are of its switches
pub record IsLayout (one : Layout) : Type 0 where
  pub count : length one.guids ≡ length one.rows
  pub within : (s : ℕ) → s < length one.rows → list_all (λ link. nat_lt link.to (length one.rows)) (links_of one.rows s) ≡ true
  pub hang : all_attached one.homes (length one.rows) ≡ true

-- where a LID is attached, with its switch by that switch's place
abbrev pub placed_home : (ℕ → ℕ) → PortRef → PortRef
placed_home place home = record { node = place home.node; port = home.port }

-- each switch of the one stands at a place of the other: there it has its GUID, and by each port a link to the place of the
-- same switch; and each LID is attached to the same port of the same switch
pub record IsPlacedIn (one other : Layout) (place : ℕ → ℕ) : Type 0 where
  pub below : (s : ℕ) → s < length one.rows → place s < length other.rows
  pub links : (s : ℕ) → s < length one.rows → links_of other.rows (place s) ≡ map (placed_link place) (links_of one.rows s)
  pub guids : (s : ℕ) → s < length one.rows → get_or other.guids (place s) 0 ≡ get_or one.guids s 0
  pub homes : other.homes ≡ map (placed_home place) one.homes

-- each of them so in the other, and no two switches at one place
pub record AreAlike (one other : Layout) : Type 0 where
  pub one_is : IsLayout one
  pub other_is : IsLayout other
  pub place : ℕ → ℕ
  pub back : ℕ → ℕ
  pub to_other : IsPlacedIn one other place
  pub to_one : IsPlacedIn other one back
  pub there_and_back : (s : ℕ) → s < length one.rows → back (place s) ≡ s
  pub back_and_there : (s : ℕ) → s < length other.rows → place (back s) ≡ s
