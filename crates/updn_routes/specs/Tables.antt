-- How routes are found: switches stand in rows by their places, those that links lead down to and those that they lead up
-- to, and for each target there is a table of the hops that are left from each place.
use Rattle.std.specs.Prelude.{ℕ, ◌≡◌, ◌+◌, ◌≤◌, ◌<◌, ◌==◌, nat_lt, Bool, true, false, if◌then◌else◌, List, [], map, filter, length, get_or, position, Option, Some, None, IfSome}
use Rattle.std.specs.List.{fold, list_all, range_with_len}
use Rattle.std.specs.Option.{option_map_or}
use Rattle.updn_routes.specs.declared.link.Link.{Link}
use Rattle.updn_routes.specs.declared.table.NextHop.{NextHop}
use Rattle.updn_routes.specs.Cabling.{links_of}
use Rattle.updn_routes.specs.Order.{place_of, precedes}
use Rattle.updn_routes.specs.Places.{placed_link}

-- ---- places
-- the place of each switch
abbrev pub places_of : List ℕ → List ℕ → List ℕ
places_of ranks guids = map (place_of (precedes ranks guids) (length guids)) (range_with_len 0 (length guids))

-- the place of a switch, and past all of them if there is no such switch
abbrev pub place_at : List ℕ → ℕ → ℕ
place_at places s = get_or places s (length places)

-- the switch at a place
abbrev pub switch_at : List ℕ → ℕ → Option ℕ
switch_at places p = position (λ other. other == p) places

-- the links of the switch at a place, to places
abbrev pub links_at : List (List Link) → List ℕ → ℕ → List Link
links_at rows places p = map (placed_link (place_at places)) (option_map_or (links_of rows) (switch_at places p) [])

-- those of them that lead down, and those that lead up
abbrev pub downs_at : List (List Link) → List ℕ → ℕ → List Link
downs_at rows places p = filter (λ link. nat_lt p link.to) (links_at rows places p)

abbrev pub ups_at : List (List Link) → List ℕ → ℕ → List Link
ups_at rows places p = filter (λ link. nat_lt link.to p) (links_at rows places p)

abbrev pub all_downs : List (List Link) → List ℕ → List (List Link)
all_downs rows places = map (downs_at rows places) (range_with_len 0 (length places))

abbrev pub all_ups : List (List Link) → List ℕ → List (List Link)
all_ups rows places = map (ups_at rows places) (range_with_len 0 (length places))

-- ---- hops
-- at the target itself
abbrev pub home : NextHop
home = record { port = 0; hops = 0; falls = true }

abbrev pub entry_at : List (Option NextHop) → ℕ → Option NextHop
entry_at table p = get_or table p None

-- before any way is found
abbrev pub entry_first : ℕ → ℕ → Option NextHop
entry_first d p = if p == d then Some home else None

-- the better of what was found so far and a link with that far end's entry beyond: the first of the shortest
abbrev pub shorter : NextHop → NextHop → NextHop
shorter best other = if nat_lt other.hops best.hops then other else best

-- out of that port, and on as that far end does
abbrev pub through : Bool → ℕ → NextHop → NextHop
through falls port beyond = record { port = port; hops = beyond.hops + 1; falls = falls }

abbrev pub or_better : Bool → Option NextHop → ℕ → Option NextHop → Option NextHop
or_better falls best port None = best
or_better falls None port (Some beyond) = Some (through falls port beyond)
or_better falls (Some best) port (Some beyond) = Some (shorter best (through falls port beyond))

abbrev pub or_link : Bool → List (Option NextHop) → Option NextHop → Link → Option NextHop
or_link falls table best link = or_better falls best link.port (entry_at table link.to)

-- the best of these links, by a table; they all lead down, or all up
abbrev pub best_of : Bool → List (Option NextHop) → List Link → Option NextHop
best_of falls table row = fold (or_link falls table) None row

-- the way down if there is one, and else the way up
abbrev pub or_up : Option NextHop → Option NextHop → Option NextHop
or_up (Some way) up = Some way
or_up None up = up

-- ---- tables
-- no entry has more hops
abbrev pub AllWithin : ℕ → List (Option NextHop) → Type 0
AllWithin most table = (p : ℕ) → IfSome (entry_at table p) (λ hop. hop.hops ≤ most)

-- a table that holds the best way down from each place between the first and the target
pub record IsDownFrom (downs : List (List Link)) (d first most : ℕ) (table : List (Option NextHop)) : Type 0 where
  pub count : length table ≡ length downs
  pub at_home : entry_at table d ≡ Some home
  pub past : (p : ℕ) → d < p → entry_at table p ≡ None
  pub right : (p : ℕ) → first ≤ p → p < d → entry_at table p ≡ best_of true table (links_of downs p)
  pub small : AllWithin most table

-- that table, with the best way up from each place before the last one that has no way down
pub record IsUpTo (ups : List (List Link)) (down : List (Option NextHop)) (last most : ℕ) (table : List (Option NextHop)) : Type 0 where
  pub count : length table ≡ length down
  pub kept : (p : ℕ) (hop : NextHop) → entry_at down p ≡ Some hop → entry_at table p ≡ Some hop
  pub waits : (p : ℕ) → last ≤ p → entry_at table p ≡ entry_at down p
  pub right : (p : ℕ) → p < last → entry_at down p ≡ None → entry_at table p ≡ best_of false table (links_of ups p)
  pub small : AllWithin most table

-- the table towards the target at that place
pub record IsTable (downs ups : List (List Link)) (d : ℕ) (table : List (Option NextHop)) : Type 0 where
  pub down : List (Option NextHop)
  pub down_is : IsDownFrom downs d 0 d down
  pub up_is : IsUpTo ups down (length downs) (d + length downs) table

-- the tables towards the targets at so many places
pub record AreTables (downs ups : List (List Link)) (many : ℕ) (tables : List (List (Option NextHop))) : Type 0 where
  pub count : length tables ≡ many
  pub each : (d : ℕ) → d < many → IsTable downs ups d (get_or tables d [])

-- all links of these rows lead to later places, and all of those to earlier ones
abbrev pub AllDown : List (List Link) → Type 0
AllDown downs = (p : ℕ) → list_all (λ link. nat_lt p link.to) (links_of downs p) ≡ true

abbrev pub AllUp : List (List Link) → Type 0
AllUp ups = (p : ℕ) → list_all (λ link. nat_lt link.to p) (links_of ups p) ≡ true
