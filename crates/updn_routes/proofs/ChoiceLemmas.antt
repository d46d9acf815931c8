-- Next hops do not depend on the order in which switches stand.
use Rattle.std.proofs.Common.{ℕ, suc, ◌-◌, ◌<◌, ◌≤◌, ◌≡◌, ◌∙◌, ◌==◌, ap, refl, sym, subst, not, Bool, true, false, cond, if◌then◌else◌, List, [], ◌∷◌, filter, length, slice_get, get_or, ◌&&◌, nat_lt, arith}
use Rattle.std.proofs.Common.{Option, Some, None, map, option_map}
use Rattle.std.specs.Option.{option_and_then}
use Rattle.std.proofs.lemmas.Bool.{eqb-false, eqb-true, eq-eqb, ltb-true, false≢true}
use Rattle.std.proofs.lemmas.Option.{slice_get-map}
use Rattle.fabric_parts.specs.declared.cable.PortRef.{PortRef}
use Rattle.step_results.proofs.ListLemmas.{all_there}
use Rattle.lid_assign.specs.Lids.{AreLids, end_ports}
use Rattle.updn_routes.specs.Cabling.{is_cabling}
use Rattle.updn_routes.specs.Choice.{AllChosen}
use Rattle.updn_routes.specs.Order.{AreRanks, IsOrder, place_of, precedes}
use Rattle.updn_routes.specs.Routes.{SwitchRoutesState, hop_to, home_of, next_hop, order_of, tie_at, tie_towards}
use Rattle.updn_routes.specs.Tables.{place_at, places_of}
use Rattle.updn_routes.specs.Ties.{is_earlier, number_of_home, numbers_of, tie_of}
use Rattle.updn_routes.specs.declared.tie_rule.TieRule.{TieRule}
use Rattle.updn_routes.specs.declared.tie_rule.TieRule.TheVariants.{LeastPort, Balanced}
use Rattle.updn_routes.specs.Subnet.{RoutesState, place_of as place_in}
use Rattle.updn_routes.specs.declared.link.Link.{Link}
use Rattle.updn_routes.proofs.PlacedLemmas.{IsMoved, choices_move}
use Rattle.updn_routes.proofs.UniqueLemmas.{one_choice}
use Rattle.updn_routes.proofs.AlikeLemmas.{flip, home_low, order_same, ranks_are_alike}
use Rattle.updn_routes.proofs.EntryLemmas.{place_is}
use Rattle.updn_routes.proofs.PlaceLemmas.{no_more_by}
use Rattle.updn_routes.proofs.OfFabricLemmas.{graphs_of_one_fabric_are_alike, has_switch, meets, not_without, within_rows}
use Rattle.updn_routes.specs.Alike.{AreAlike, Layout, layout_of, placed_home}
use Rattle.updn_routes.specs.OrderLaws.{ChoicesAreAlike, NextHopsAreTheFabrics}
use Rattle.updn_routes.specs.NextHops.{AreChosenFrom}

pub own_place : (one other : Layout) (s t : ℕ) → (alike : AreAlike one other) → s < length one.rows → t < length one.rows
    → alike.place s ≡ alike.place t → s ≡ t
own_place one other s t alike sl tl same = sym (alike.there_and_back s sl) ∙ ap alike.back same ∙ alike.there_and_back t tl

pub choices_are_alike : ChoicesAreAlike
choices_are_alike one other roots ranks other_ranks pick other_pick next other_next s d alike rule mine theirs cabling order first second sl dl away =
    one_choice one.rows (precedes ranks one.guids) d cabling order (λ t. other_pick (alike.place t)) pick (λ t ties low. rule t ties low)
    (λ t. other_next (alike.place t)) next
    (choices_move one.rows other.rows (precedes ranks one.guids) (precedes other_ranks other.guids) alike.place cabling moved other_next other_pick d dl second)
    first s sl away
  where
    moved : IsMoved one.rows other.rows (precedes ranks one.guids) (precedes other_ranks other.guids) alike.place
    moved =
        record {
          below = alike.to_other.below;
          less = order_same one other roots ranks other_ranks alike mine theirs;
          own = λ s t sl tl same. own_place one other s t alike sl tl same;
          each = alike.to_other.links;
        }

-- ---- places
-- as many switches come before a switch in the one order as in the other
no_more_before : (one other : Layout) (roots ranks other_ranks : List ℕ) (s : ℕ) (alike : AreAlike one other)
    → AreRanks one.rows one.guids roots ranks → AreRanks other.rows other.guids roots other_ranks → s < length one.rows
    → place_of (precedes ranks one.guids) (length one.guids) s ≤ place_of (precedes other_ranks other.guids) (length other.guids) (alike.place s)
no_more_before one other roots ranks other_ranks s alike mine theirs sl =
    no_more_by alike.place (λ t. precedes ranks one.guids t s) (λ t. precedes other_ranks other.guids t (alike.place s)) 0 (length one.guids) (length other.guids)
    (λ u low high before.
    let ul : u < length one.rows = omega (arith, high, count) in
    let below = alike.to_other.below u ul in
    (omega (arith, below, other_count), order_same one other roots ranks other_ranks alike mine theirs u s ul sl ∙ before))
    (λ u v ul uh vl vh passes passes_too same. own_place one other u v alike (omega (arith, uh, count)) (omega (arith, vh, count)) same)
  where
    count : length one.guids ≡ length one.rows
    count = alike.one_is.count

    other_count : length other.guids ≡ length other.rows
    other_count = alike.other_is.count

places_are_alike : (one other : Layout) (roots ranks other_ranks : List ℕ) (s : ℕ) (alike : AreAlike one other)
    → AreRanks one.rows one.guids roots ranks → AreRanks other.rows other.guids roots other_ranks → s < length one.rows
    → place_at (places_of other_ranks other.guids) (alike.place s) ≡ place_at (places_of ranks one.guids) s
places_are_alike one other roots ranks other_ranks s alike mine theirs sl =
    let there_low = alike.to_other.below s sl in
    let count = alike.one_is.count in
    let other_count = alike.other_is.count in
    let is = place_is ranks one.guids s (omega (arith, sl, count)) in
    let is_too = place_is other_ranks other.guids (alike.place s) (omega (arith, there_low, other_count)) in
    let there = no_more_before one other roots ranks other_ranks s alike mine theirs sl in
    let back : place_of (precedes other_ranks other.guids) (length other.guids) (alike.place s)
    ≤ place_of (precedes ranks one.guids) (length one.guids) (alike.back (alike.place s)) =
    no_more_before other one roots other_ranks ranks (alike.place s) (flip one other alike) theirs mine there_low in
    let same = ap (place_of (precedes ranks one.guids) (length one.guids)) (alike.there_and_back s sl) in
    omega (arith, is, is_too, there, back, same)

-- where each LID is attached
pub home_moved : (one other : Layout) (alike : AreAlike one other) (lid : ℕ)
    → home_of other.homes lid ≡ option_map (placed_home alike.place) (home_of one.homes lid)
home_moved one other alike lid = ap (λ (homes : List PortRef). home_of homes lid) alike.to_other.homes ∙ by (lid == 0)
  where
    by : (b : Bool) → (if b then None else slice_get (map (placed_home alike.place) one.homes) (lid - 1))
        ≡ option_map (placed_home alike.place) (if b then None else slice_get one.homes (lid - 1))
    by true = refl
    by false = slice_get-map (placed_home alike.place) one.homes (lid - 1)

-- ---- routes between switches, in two orders
record AreBetween (roots : List ℕ) (one : Layout) (routes : SwitchRoutesState) : Type 0 where
  ranks : AreRanks one.rows one.guids roots routes.ranks
  cabling : is_cabling one.rows ≡ true
  order : IsOrder (length one.rows) (precedes routes.ranks one.guids)
  places : routes.places ≡ places_of routes.ranks one.guids
  numbers : routes.numbers ≡ numbers_of routes.rule routes.places routes.homes
  chosen : (lid d port : ℕ) → home_of one.homes lid ≡ Some (record { node = d; port = port })
      → AllChosen one.rows (precedes routes.ranks one.guids) (tie_at routes lid) (λ s. next_hop routes s lid) d
  homes : routes.homes ≡ one.homes

-- ---- numbers of adapters' ports
-- a list that is changed keeps as many that pass a test, if each passes the test of what it becomes
as_many : (p q : PortRef → Bool) (f : PortRef → PortRef) (homes : List PortRef)
    → ((i : ℕ) (home : PortRef) → slice_get homes i ≡ Some home → q (f home) ≡ p home)
    → length (filter q (map f homes)) ≡ length (filter p homes)
as_many p q f [] same = refl
as_many p q f (home ∷ homes) same =
    by (q (f home)) (p home) (same 0 home refl) (as_many p q f homes (λ i one at. same (suc i) one at))
  where
    by : (b c : Bool) → b ≡ c → length (filter q (map f homes)) ≡ length (filter p homes)
        → length (cond b (f home ∷ filter q (map f homes)) (filter q (map f homes))) ≡ length (cond c (home ∷ filter p homes) (filter p homes))
    by true true e more = ap suc more
    by false false e more = more
    by true false e more = absurd (false≢true (sym e))
    by false true e more = absurd (false≢true e)

module _ (place : ℕ → ℕ) (places other_places : List ℕ) (all : List PortRef)
    (same : (i : ℕ) (home : PortRef) → slice_get all i ≡ Some home → place_at other_places (place home.node) ≡ place_at places home.node) where
  as_early : (i j : ℕ) (one other : PortRef) → slice_get all i ≡ Some one → slice_get all j ≡ Some other
      → is_earlier other_places (placed_home place one) (placed_home place other) ≡ is_earlier places one other
  as_early i j one other at at_other = rw (same i one at, same j other at_other) refl

  numbers_alike : (homes : List PortRef) → ((i : ℕ) (home : PortRef) → slice_get homes i ≡ Some home → (j : ℕ) × (slice_get all j ≡ Some home))
      → map (number_of_home other_places (map (placed_home place) all)) (map (placed_home place) homes) ≡ map (number_of_home places all) homes
  numbers_alike [] among = refl
  numbers_alike (home ∷ homes) among =
      let there = among 0 home refl in
      let number = as_many (λ other. not (other.port == 0) && is_earlier places other home)
      (λ other. not (other.port == 0) && is_earlier other_places other (placed_home place home)) (placed_home place) all
      (λ i one at. ap (λ (b : Bool). not (one.port == 0) && b) (as_early i there.0 one home at there.1)) in
      ap (λ (n : ℕ). n ∷ map (number_of_home other_places (map (placed_home place) all)) (map (placed_home place) homes)) number
      ∙ ap (λ (rest : List ℕ). number_of_home places all home ∷ rest) (numbers_alike homes (λ i one at. among (suc i) one at))

  same_numbers : (rule : TieRule) → numbers_of rule other_places (map (placed_home place) all) ≡ numbers_of rule places all
  same_numbers LeastPort = refl
  same_numbers Balanced = numbers_alike all (λ i home at. (i, at))

module _ (one other : Layout) (roots : List ℕ) (mine theirs : SwitchRoutesState) (alike : AreAlike one other)
    (are : AreBetween roots one mine) (are_too : AreBetween roots other theirs) (rule : theirs.rule ≡ mine.rule) where
  place_kept : (t : ℕ) → t < length one.rows → place_at theirs.places (alike.place t) ≡ place_at mine.places t
  place_kept t low =
      ap (λ (places : List ℕ). place_at places (alike.place t)) are_too.places
      ∙ places_are_alike one other roots mine.ranks theirs.ranks t alike are.ranks are_too.ranks low
      ∙ ap (λ (places : List ℕ). place_at places t) (sym are.places)

  numbers_kept : theirs.numbers ≡ mine.numbers
  numbers_kept =
      are_too.numbers
      ∙ ap (λ (r : TieRule). numbers_of r theirs.places theirs.homes) rule
      ∙ ap (numbers_of mine.rule theirs.places) (are_too.homes ∙ alike.to_other.homes)
      ∙ same_numbers alike.place mine.places theirs.places one.homes
      (λ i home at. place_kept home.node (ltb-true home.node (length one.rows) (all_there (λ home. nat_lt home.node (length one.rows)) one.homes i home alike.one_is.hang at)))
      mine.rule
      ∙ ap (numbers_of mine.rule mine.places) (sym are.homes)
      ∙ sym are.numbers

  one_tie : (lid t ties : ℕ) → t < length one.rows → tie_at theirs lid (alike.place t) ties ≡ tie_at mine lid t ties
  one_tie lid t ties low =
      let place = place_kept t low in
      let rank = ranks_are_alike one other roots mine.ranks theirs.ranks t alike are.ranks are_too.ranks low in
      ap (λ (r : TieRule). tie_of r (get_or theirs.numbers (lid - 1) 0) (get_or theirs.ranks (alike.place t) 0) (place_at theirs.places (alike.place t)) ties) rule
      ∙ ap (λ (n : List ℕ). tie_of mine.rule (get_or n (lid - 1) 0) (get_or theirs.ranks (alike.place t) 0) (place_at theirs.places (alike.place t)) ties) numbers_kept
      ∙ ap (λ (r : ℕ). tie_of mine.rule (get_or mine.numbers (lid - 1) 0) r (place_at theirs.places (alike.place t)) ties) rank
      ∙ ap (λ (p : ℕ). tie_of mine.rule (get_or mine.numbers (lid - 1) 0) (get_or mine.ranks t 0) p ties) place

  next_hops_are_alike : (s lid : ℕ) → s < length one.rows → next_hop theirs (alike.place s) lid ≡ next_hop mine s lid
  next_hops_are_alike s lid sl = by (home_of one.homes lid) refl
    where
      theirs_is : next_hop theirs (alike.place s) lid ≡ hop_to theirs lid (alike.place s) (option_map (placed_home alike.place) (home_of one.homes lid))
      theirs_is =
          ap (λ (homes : List PortRef). hop_to theirs lid (alike.place s) (home_of homes lid)) are_too.homes
          ∙ ap (hop_to theirs lid (alike.place s)) (home_moved one other alike lid)

      mine_is : next_hop mine s lid ≡ hop_to mine lid s (home_of one.homes lid)
      mine_is = ap (λ (homes : List PortRef). hop_to mine lid s (home_of homes lid)) are.homes

      by : (o : Option PortRef) → home_of one.homes lid ≡ o → next_hop theirs (alike.place s) lid ≡ next_hop mine s lid
      by None at =
          theirs_is ∙ ap (λ (o : Option PortRef). hop_to theirs lid (alike.place s) (option_map (placed_home alike.place) o)) at
          ∙ sym (mine_is ∙ ap (hop_to mine lid s) at)
      by (Some home) at = on (home.node == s) refl
        where
          low : home.node < length one.rows
          low = home_low one other alike.place alike.one_is alike.to_other lid home at

          on : (b : Bool) → (home.node == s) ≡ b → next_hop theirs (alike.place s) lid ≡ next_hop mine s lid
          on true same =
              let there = eq-eqb (alike.place home.node) (alike.place s) (ap alike.place (eqb-true home.node s same)) in
              theirs_is ∙ ap (λ (o : Option PortRef). hop_to theirs lid (alike.place s) (option_map (placed_home alike.place) o)) at
              ∙ ap (λ (b : Bool). if b then Some home.port else tie_towards theirs lid (alike.place home.node) (alike.place s)) there
              ∙ sym (mine_is ∙ ap (hop_to mine lid s) at ∙ ap (λ (b : Bool). if b then Some home.port else tie_towards mine lid home.node s) same)
          on false apart =
              choices_are_alike one other roots mine.ranks theirs.ranks (tie_at mine lid) (tie_at theirs lid) (λ t. next_hop mine t lid)
              (λ t. next_hop theirs t lid) s home.node alike (λ t ties tl. one_tie lid t ties tl) are.ranks are_too.ranks are.cabling are.order
              (are.chosen lid home.node home.port at)
              (are_too.chosen lid (alike.place home.node) home.port (home_moved one other alike lid ∙ ap (option_map (placed_home alike.place)) at)) sl low
              (λ same. eqb-false home.node s apart (sym same))

-- ---- routes of two graphs of one fabric
are_between : (roots guids : List ℕ) (routes : RoutesState) → guids ≡ routes.lids → AreChosenFrom roots routes
    → AreBetween roots (layout_of routes.graph guids) routes.between
are_between roots guids routes same from =
    let one = layout_of routes.graph guids in
    let between = routes.between in
    let homes_are : between.homes ≡ one.homes = from.of.homes_are ∙ ap (λ (lids : List ℕ). (layout_of routes.graph lids).homes) (sym same) in
    record {
      ranks = from.ranks;
      cabling = subst (λ (rows : List (List Link)). is_cabling rows ≡ true) from.of.rows_are from.chosen.cabling;
      order =
          subst (λ (guids : List ℕ). IsOrder (length one.rows) (precedes between.ranks guids)) from.of.guids_are
          (subst (λ (rows : List (List Link)). IsOrder (length rows) (order_of between)) from.of.rows_are from.chosen.order);
      places = from.chosen.places ∙ ap (places_of between.ranks) from.of.guids_are;
      numbers = from.chosen.numbers;
      chosen = λ lid d port home.
          subst (λ (guids : List ℕ). AllChosen one.rows (precedes between.ranks guids) (tie_at between lid) (λ s. next_hop between s lid) d) from.of.guids_are
          (subst (λ (rows : List (List Link)). AllChosen rows (order_of between) (tie_at between lid) (λ s. next_hop between s lid) d) from.of.rows_are
          (from.chosen.chosen lid d port (ap (λ (homes : List PortRef). home_of homes lid) homes_are ∙ home)));
      homes = homes_are;
    }

pub next_hops_are_the_fabrics : NextHopsAreTheFabrics
next_hops_are_the_fabrics fabric one other roots guid lid good is too from from_too lids rule =
    by (place_in one.graph.switches guid) refl (place_in other.graph.switches guid) refl
  where
    are_too : AreLids (end_ports other.graph) one.lids
    are_too = subst (AreLids (end_ports other.graph)) lids from_too.of.lids_are

    by : (o : Option ℕ) → place_in one.graph.switches guid ≡ o → (p : Option ℕ) → place_in other.graph.switches guid ≡ p
        → option_and_then (λ place. next_hop other.between place lid) p ≡ option_and_then (λ place. next_hop one.between place lid) o
    by None at None at_too = refl
    by (Some k) at None at_too =
        let has = has_switch fabric one.graph is guid k at in absurd (not_without fabric other.graph too guid has.node has.switch has.guid_is at_too)
    by None at (Some m) at_too =
        let has = has_switch fabric other.graph too guid m at_too in absurd (not_without fabric one.graph is guid has.node has.switch has.guid_is at)
    by (Some k) at (Some m) at_too =
        let has = has_switch fabric one.graph is guid k at in
        let alike = graphs_of_one_fabric_are_alike fabric one.graph other.graph one.lids good is too from.of.lids_are are_too in
        ap (λ (place : ℕ). next_hop other.between place lid)
        (meets fabric one.graph other.graph one.lids guid k m good is too from.of.lids_are are_too at at_too)
        ∙ next_hops_are_alike (layout_of one.graph one.lids) (layout_of other.graph one.lids) roots one.between other.between alike
        (are_between roots one.lids one refl from) (are_between roots one.lids other (sym lids) from_too) rule k lid
        (within_rows fabric one.graph is k has.node has.there)
