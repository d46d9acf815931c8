-- Routes as they are answered: next hops, channel numbers, and what has no route.
use Rattle.std.proofs.Common.{◌≡◌, ◌≢◌, ℕ, zero, suc, ◌+◌, ◌-◌, ◌<◌, ◌≤◌, ◌⊎◌, Bool, true, false, not, cond, ◌==◌, ◌&&◌, ◌||◌, nat_lt, List, [], ◌∷◌, filter, length, map, get_or, slice_get, position, is_none}
use Rattle.std.proofs.Common.{mod-lt, Option, Some, None, option_map, refl, sym, ap, subst, ◌∙◌, inl, inr, arith}
use Rattle.std.specs.List.{list_any, position_or_len, range_with_len}
use Rattle.std.proofs.lemmas.Bool.{and_parts, and_from, cases_lt, eqb-true, eqb-false, eq-eqb, ne_eqb, lt-ltb, ltb-true, not-true, or_cases, or_left, or_right, false≢true}
use Rattle.std.proofs.lemmas.List.FromFn.{get_or-map-range_with_len, length-map-range_with_len}
use Rattle.std.proofs.lemmas.List.Quantifiers.{position-Some}
use Rattle.std.proofs.lemmas.List.Sums.{fails_before_first}
use Rattle.std.proofs.lemmas.Option.{slice_get-get_or, slice_get-map, slice_get_cases}
use Rattle.fabric_parts.specs.declared.cable.PortRef.{PortRef}
use Rattle.updn_routes.specs.declared.link.Link.{Link}
use Rattle.updn_routes.specs.declared.table.NextHop.{NextHop}
use Rattle.std.specs.Option.{option_and_then}
use Rattle.std.proofs.lemmas.List.{length-map}
use Rattle.updn_routes.specs.Cabling.{is_cabling, is_next_to, is_walk, links_of}
use Rattle.updn_routes.specs.Choice.{AllChosen, IsRule, least_port}
use Rattle.updn_routes.specs.Fabric.{IsFabric}
use Rattle.updn_routes.specs.Laws.{KeepsTheOrder}
use Rattle.updn_routes.specs.Order.{AreDistances, IsOrder, is_first_root, is_root, place_of, precedes}
use Rattle.updn_routes.specs.Rounds.{is_marked}
use Rattle.updn_routes.specs.Routes.{AllReached, AllRouted, AreRoutes, IsFirstUnreached, IsPair, LeadsToLid, LegalPath, NoLegalPath, SwitchRoutesState, all_attached, carries, has_gap, home_of, hop_to, is_gap, next_hop, number_of, hop_towards, is_tie, port_towards, routes_with, tie_at, tie_towards}
use Rattle.updn_routes.specs.Tables.{AreTables, all_downs, all_ups, downs_at, place_at, places_of}
use Rattle.updn_routes.specs.Ties.{is_earlier, number_of_home, numbers_of, tie_of}
use Rattle.updn_routes.specs.UpDown.{channel_number, is_legal}
use Rattle.updn_routes.specs.declared.tie_rule.TieRule.{TieRule}
use Rattle.updn_routes.specs.declared.tie_rule.TieRule.TheVariants.{LeastPort, Balanced}
use Rattle.updn_routes.proofs.CablingLemmas.{ends, leads_there, next_leads}
use Rattle.updn_routes.proofs.EntryLemmas.{place_is, places_count, places_keep, table_home, table_picked, table_right}
use Rattle.updn_routes.proofs.FabricLemmas.{first_root}
use Rattle.updn_routes.proofs.NumberLemmas.{legal_numbers, legal_short}
use Rattle.updn_routes.proofs.OrderLemmas.{ranks_order}
use Rattle.updn_routes.proofs.RouteLemmas.{arrives, none_legal, route_legal, route_walks}
use Rattle.updn_routes.proofs.UniqueLemmas.{one_choice}
use Rattle.updn_routes.proofs.WriteLemmas.{past_end}
use Rattle.step_results.proofs.ListLemmas.{all_there}

not_both : (p : ℕ) → ◌≡◌ {A = Option ℕ} None (Some p) → ⊥
not_both p h = cc

-- ---- roots
walk_stays : (rows : List (List Link)) (s d : ℕ) (steps : List ℕ) → is_cabling rows ≡ true → s < length rows
    → is_walk rows s steps d ≡ true → d < length rows
walk_stays rows s d [] cabling less walk = subst (λ (k : ℕ). k < length rows) (eqb-true s d walk) less
walk_stays rows s d (t ∷ steps) cabling less walk =
    let parts = and_parts (is_next_to rows s t) (is_walk rows t steps d) walk in
    walk_stays rows t d steps cabling (ends rows s t cabling less parts.0).0 parts.1

-- tests that agree on the switches give the same distances
same_distances : (rows : List (List Link)) (p q : ℕ → Bool) (distances : List ℕ) → is_cabling rows ≡ true
    → ((s : ℕ) → s < length rows → p s ≡ q s) → AreDistances rows p distances → AreDistances rows q distances
same_distances rows p q distances cabling agree are =
    record {
      count = are.count;
      each = λ s less. let one = are.each s less in let end = one.some in
          record {
            some = (end.0, end.1, sym (agree end.0 (walk_stays rows s end.0 end.1 cabling less end.3)) ∙ end.2, end.3, end.4);
            none_shorter = λ d steps passes walk. one.none_shorter d steps (agree d (walk_stays rows s d steps cabling less walk) ∙ passes) walk;
          };
    }

marked_at : (p : ℕ → Bool) (count s : ℕ) → s < count → is_marked (map p (range_with_len 0 count)) s ≡ p s
marked_at p count s less = let same : 0 + s ≡ s = omega arith in get_or-map-range_with_len p 0 count s s false less same

any_at : (marks : List Bool) (s : ℕ) → s < length marks → is_marked marks s ≡ true → list_any (λ is. is) marks ≡ true
any_at [] s less is = absurd (let no_room : ⊥ = omega (arith, less) in no_room)
any_at (mark ∷ marks) zero less is = or_left mark _ is
any_at (mark ∷ marks) (suc s) less is = or_right mark _ (any_at marks s (omega (arith, less)) is)

pub record MarksRoots (rows : List (List Link)) (p : ℕ → Bool) (marks : List Bool) : Type 0 where
  pub count : length marks ≡ length rows
  pub some : list_any (λ is. is) marks ≡ true
  pub same : (distances : List ℕ) → AreDistances rows (is_marked marks) distances → AreDistances rows p distances

marks_right : (rows : List (List Link)) (p : ℕ → Bool) (count root : ℕ) → is_cabling rows ≡ true → count ≡ length rows
    → root < count → p root ≡ true → MarksRoots rows p (map p (range_with_len 0 count))
marks_right rows p count root cabling even less is =
    record {
      count = length-map-range_with_len p 0 count ∙ even;
      some = any_at (map p (range_with_len 0 count)) root (let long = length-map-range_with_len p 0 count in omega (arith, long, less)) (marked_at p count root less ∙ is);
      same = λ distances are. same_distances rows (is_marked (map p (range_with_len 0 count))) p distances cabling (λ s low. marked_at p count s (omega (arith, low, even))) are;
    }

pub marks_roots : (rows : List (List Link)) (guids roots : List ℕ) → IsFabric rows guids roots
    → MarksRoots rows (is_root guids roots) (map (is_root guids roots) (range_with_len 0 (length guids)))
marks_roots rows guids roots fabric =
    let some = fabric.some in
    let count = fabric.count in
    let first = first_root guids roots (omega (arith, some, count)) fabric.named in
    marks_right rows (is_root guids roots) (length guids) first.place fabric.cabling fabric.count first.there first.root

pub marks_first : (rows : List (List Link)) (guids roots : List ℕ) → IsFabric rows guids roots
    → MarksRoots rows (is_first_root guids roots) (map (is_first_root guids roots) (range_with_len 0 (length guids)))
marks_first rows guids roots fabric =
    let some = fabric.some in
    let count = fabric.count in
    let first = first_root guids roots (omega (arith, some, count)) fabric.named in
    marks_right rows (is_first_root guids roots) (length guids) first.place fabric.cabling fabric.count first.there first.first

-- a LID is attached to a switch
attached_low : (homes : List PortRef) (count : ℕ) → all_attached homes count ≡ true → (lid : ℕ) (home : PortRef)
    → home_of homes lid ≡ Some home → home.node < count
attached_low homes count hang lid home e = by (lid == 0) refl e
  where
    by : (b : Bool) → (lid == 0) ≡ b → cond b None (slice_get homes (lid - 1)) ≡ Some home → home.node < count
    by true f h = absurd (let no_room : ⊥ = cc h in no_room)
    by false f h = ltb-true home.node count (all_there (λ (one : PortRef). nat_lt one.node count) homes (lid - 1) home hang h)

-- the rule names one of the ties
names_a_tie : (routes : SwitchRoutesState) (lid : ℕ) → IsRule (tie_at routes lid)
names_a_tie routes lid s ties some = by routes.rule
  where
    by : (rule : TieRule) → tie_of rule (get_or routes.numbers (lid - 1) 0) (get_or routes.ranks s 0) (place_at routes.places s) ties < ties
    by LeastPort = some
    by Balanced = mod-lt _ some

-- the port of a link that is named is the port that is named
by_port : (pick : ℕ → ℕ) (test : NextHop → Link → Bool) (row : List Link) (o : Option NextHop)
    → option_and_then (λ own. option_map (λ link. link.port) (slice_get (filter (test own) row) (pick (length (filter (test own) row))))) o
    ≡ option_and_then (λ own. slice_get (map (λ link. link.port) (filter (test own) row)) (pick (length (map (λ link. link.port) (filter (test own) row))))) o
by_port pick test row None = refl
by_port pick test row (Some own) =
    let ties : List Link = filter (test own) row in
    sym (ap (λ (n : ℕ). slice_get (map (λ link. link.port) ties) (pick n)) (length-map ties (λ link. link.port))
    ∙ slice_get-map (λ link. link.port) ties (pick (length ties)))

-- a switch with a link is one
pub has_row : (rows : List (List Link)) (s : ℕ) → (length (links_of rows s) == 0) ≡ false → s < length rows
has_row rows s some =
    elim (cases_lt s (length rows)) [
      | inl less ↦ less
      | inr past ↦ absurd (false≢true (sym some ∙ ap (λ (row : List Link). length row == 0) (past_end rows s [] past)))
    ]

-- ---- all routes
pub routes_right : (rows : List (List Link)) (guids roots ranks depths places : List ℕ) (tables : List (List (Option NextHop)))
    (homes : List PortRef) (rule : TieRule) (numbers : List ℕ) → IsFabric rows guids roots → length rows ≤ 64
    → all_attached homes (length rows) ≡ true → length homes ≤ 49151
    → places ≡ places_of ranks guids → numbers ≡ numbers_of rule places homes
    → AreTables (all_downs rows places) (all_ups rows places) (length (all_downs rows places)) tables
    → AreRoutes (routes_with rows guids ranks depths places tables homes rule numbers)
routes_right rows guids roots ranks depths places tables homes rule numbers fabric few hang few_lids is numbers_are are =
    record {
      cabling = fabric.cabling;
      count = fabric.count;
      order = order;
      places = is;
      numbers = numbers_are;
      hang = hang;
      few = few;
      few_lids = few_lids;
      least = λ d less. table_right rows (precedes ranks guids) places fabric.cabling long keeps d (get_or tables (place_at places d) []) less (are.each (place_at places d) (low d less));
      chosen = λ lid d port home.
          let less = attached_low homes (length rows) hang lid (record { node = d; port = port }) home in
          table_picked rows (precedes ranks guids) places fabric.cabling long keeps d (get_or tables (place_at places d) []) less (are.each (place_at places d) (low d less))
          (tie_at routes lid) (λ s. next_hop routes s lid) (names_a_tie routes lid) (λ s sl away. towards lid d port s home away
          ∙ by_port (tie_at routes lid s) (is_tie routes d s) (links_of rows s) (hop_towards routes d s));
      at_home = λ d less. table_home rows (precedes ranks guids) places fabric.cabling long keeps d (get_or tables (place_at places d) []) less (are.each (place_at places d) (low d less));
    }
  where
    routes : SwitchRoutesState
    routes = routes_with rows guids ranks depths places tables homes rule numbers

    -- away from where a LID is attached the next hop is a tie
    towards : (lid d port s : ℕ) → home_of homes lid ≡ Some (record { node = d; port = port }) → s ≢ d
        → next_hop routes s lid ≡ tie_towards routes lid d s
    towards lid d port s home away =
        ap (hop_to routes lid s) home ∙ ap (λ b. cond b (Some port) (tie_towards routes lid d s)) (ne_eqb d s (λ same. away (sym same)))

    own : IsOrder (length guids) (precedes ranks guids)
    own = ranks_order ranks guids fabric.own

    order : IsOrder (length rows) (precedes ranks guids)
    order = subst (λ (n : ℕ). IsOrder n (precedes ranks guids)) fabric.count own

    long : length places ≡ length rows
    long = ap length is ∙ (places_count ranks guids ∙ fabric.count)

    keeps : KeepsTheOrder (length rows) (precedes ranks guids) (place_at places)
    keeps =
        subst (λ (n : ℕ). KeepsTheOrder n (precedes ranks guids) (place_at places)) fabric.count
        (subst (λ (ps : List ℕ). KeepsTheOrder (length guids) (precedes ranks guids) (place_at ps)) (sym is) (places_keep ranks guids own))

    low : (d : ℕ) → d < length rows → place_at places d < length (all_downs rows places)
    low d less =
        let below = keeps.below d less in
        let so_many = length-map-range_with_len (downs_at rows places) 0 (length places) in
        omega (arith, below, so_many, long)

-- ---- next hops
module _ (routes : SwitchRoutesState) (are : AreRoutes routes) where
  abbrev before : ℕ → ℕ → Bool
  before = precedes routes.ranks routes.guids

  -- where a port is chosen, there is an up/down path; where none is, there is none
  reached : (s d port : ℕ) → s < length routes.rows → d < length routes.rows → port_towards routes d s ≡ Some port
      → LegalPath routes.rows before s d
  reached s d port sl dl e = by (s == d) refl
    where
      by : (b : Bool) → (s == d) ≡ b → LegalPath routes.rows before s d
      by true f = ([], and_from (s == d) true f refl)
      by false f =
          let home = arrives routes.rows before least_port (port_towards routes d) d are.cabling (are.least d dl) s port sl (eqb-false s d f) e in
          let walk = route_walks routes.rows (port_towards routes d) s home.0 d home.1 in
          let legal = route_legal routes.rows before least_port (port_towards routes d) d are.cabling (are.least d dl) s home.0 sl home.1 in
          (home.0, and_from (is_walk routes.rows s home.0 d) (is_legal before s home.0) walk legal)

  gone : (s d : ℕ) → s < length routes.rows → d < length routes.rows → port_towards routes d s ≡ None
      → NoLegalPath routes.rows before s d
  gone s d sl dl e steps = by (s == d) refl
    where
      by : (b : Bool) → (s == d) ≡ b → (is_walk routes.rows s steps d && is_legal before s steps) ≡ false
      by true f =
          absurd (not_both 0 (sym e ∙ (ap (port_towards routes d) (eqb-true s d f) ∙ are.at_home d dl)))
      by false f =
          none_legal routes.rows before least_port (port_towards routes d) d are.cabling (are.least d dl) s steps sl (eqb-false s d f) e

  pub attached : (lid : ℕ) (home : PortRef) → home_of routes.homes lid ≡ Some home → home.node < length routes.rows
  attached lid home at = attached_low routes.homes (length routes.rows) are.hang lid home at

  pub all_routed : (s lid : ℕ) → AllRouted routes s lid
  all_routed s lid d port sl home = record { arrives = leads_on; none = none }
    where
      next : ℕ → Option ℕ
      next t = next_hop routes t lid

      chosen : AllChosen routes.rows before (tie_at routes lid) next d
      chosen = are.chosen lid d port home

      at_end : next d ≡ Some port
      at_end = ap (hop_to routes lid d) home ∙ ap (λ b. cond b (Some port) (tie_towards routes lid d d)) (eq-eqb d d refl)

      leads_on : (first : ℕ) → next s ≡ Some first → (steps : List ℕ) × LeadsToLid routes lid s d port steps
      leads_on first e = by (s == d) refl
        where
          by : (b : Bool) → (s == d) ≡ b → (steps : List ℕ) × LeadsToLid routes lid s d port steps
          by true f =
              ([], record { route = f; legal = refl; rising = refl; short = omega (arith, sl); out = at_end })
          by false f =
              let away = eqb-false s d f in
              let way = arrives routes.rows before (tie_at routes lid) next d are.cabling chosen s first sl away e in
              let walk = route_walks routes.rows next s way.0 d way.1 in
              let legal = route_legal routes.rows before (tie_at routes lid) next d are.cabling chosen s way.0 sl way.1 in
              let few = legal_short routes.rows before are.cabling are.order s d way.0 sl walk legal in (
                way.0,
                record {
                  route = way.1;
                  legal = legal;
                  rising = (legal_numbers routes.rows before are.cabling are.order s d way.0 sl walk legal).rising;
                  short = omega (arith, few);
                  out = at_end;
                },
              )

      none : next s ≡ None → (steps : List ℕ) → (is_walk routes.rows s steps d && is_legal before s steps) ≡ false
      none e = by (s == d) refl
        where
          by : (b : Bool) → (s == d) ≡ b → (steps : List ℕ) → (is_walk routes.rows s steps d && is_legal before s steps) ≡ false
          by true f = absurd (not_both port (sym e ∙ (ap next (eqb-true s d f) ∙ at_end)))
          by false f = λ steps. none_legal routes.rows before (tie_at routes lid) next d are.cabling chosen s steps sl (eqb-false s d f) e

  -- by the rule of the least port that is the least
  pub least_is : (lid s : ℕ) (home : PortRef) → routes.rule ≡ LeastPort → home_of routes.homes lid ≡ Some home → s < length routes.rows
      → home.node ≢ s → tie_towards routes lid home.node s ≡ port_towards routes home.node s
  least_is lid s home rule at sl away =
      let chosen = are.chosen lid home.node home.port at in
      let least = are.least home.node (attached lid home at) in
      let same = one_choice routes.rows before home.node are.cabling are.order (tie_at routes lid) least_port
      (λ u ties low. ap (λ (r : TieRule). tie_of r (get_or routes.numbers (lid - 1) 0) (get_or routes.ranks u 0) (place_at routes.places u) ties) rule)
      (λ t. next_hop routes t lid) (port_towards routes home.node) chosen least s sl (λ e. away (sym e)) in
      sym (ap (hop_to routes lid s) at ∙ ap (λ b. cond b (Some home.port) (tie_towards routes lid home.node s)) (ne_eqb home.node s away)) ∙ same

-- ---- lists
first_none : {X : Type 0} (p : X → Bool) (xs : List X) (i : ℕ) (d : X) → position p xs ≡ None → i < length xs
    → p (get_or xs i d) ≡ false
first_none p xs i d none less = by (cases_lt (position_or_len p xs) (length xs))
  where
    by : (position_or_len p xs < length xs) ⊎ (length xs ≤ position_or_len p xs) → p (get_or xs i d) ≡ false
    by (inl low) =
        absurd (not_both (position_or_len p xs) (sym none ∙ ap (λ b. cond b (Some (position_or_len p xs)) None) (lt-ltb (position_or_len p xs) (length xs) low)))
    by (inr past) = fails_before_first p xs i d (omega (arith, past, less))

none_at : {X : Type 0} (p : X → Bool) (xs : List X) (i : ℕ) (d : X) → list_any p xs ≡ false → i < length xs
    → p (get_or xs i d) ≡ false
none_at p [] i d none less = absurd (let no_room : ⊥ = omega (arith, less) in no_room)
none_at p (x ∷ xs) i d none less = by (p x) refl i less (λ j low. none_at p xs j d (rest (p x) refl) low)
  where
    rest : (b : Bool) → p x ≡ b → list_any p xs ≡ false
    rest true e = absurd (false≢true (sym none ∙ or_left (p x) (list_any p xs) e))
    rest false e = sym (ap (λ b. b || list_any p xs) e) ∙ none

    by : (b : Bool) → p x ≡ b → (j : ℕ) → j < length (x ∷ xs) → ((k : ℕ) → k < length xs → p (get_or xs k d) ≡ false)
        → p (get_or (x ∷ xs) j d) ≡ false
    by true e j low later = absurd (false≢true (sym none ∙ or_left (p x) (list_any p xs) e))
    by false e zero low later = e
    by false e (suc j) low later = later j (omega (arith, low))

some_at : {X : Type 0} (p : X → Bool) (xs : List X) (d : X) → list_any p xs ≡ true
    → (i : ℕ) × ((i < length xs) × (p (get_or xs i d) ≡ true))
some_at p [] d some = absurd (false≢true some)
some_at p (x ∷ xs) d some = by (or_cases (p x) (list_any p xs) some) (λ h. some_at p xs d h)
  where
    by : (p x ≡ true) ⊎ (list_any p xs ≡ true) → (list_any p xs ≡ true → (i : ℕ) × ((i < length xs) × (p (get_or xs i d) ≡ true)))
        → (i : ℕ) × ((i < length (x ∷ xs)) × (p (get_or (x ∷ xs) i d) ≡ true))
    by (inl here) later = (0, (omega arith, here))
    by (inr h) later = let more = later h in let less = more.1.0 in (suc more.0, (omega (arith, less), more.1.1))

pub get_or_default : {X : Type 0} (xs : List X) (i : ℕ) (one other : X) → i < length xs → get_or xs i one ≡ get_or xs i other
get_or_default [] i one other less = absurd (let no_room : ⊥ = omega (arith, less) in no_room)
get_or_default (x ∷ xs) zero one other less = refl
get_or_default (x ∷ xs) (suc i) one other less = get_or_default xs i one other (omega (arith, less))

-- ---- where LIDs are attached
abbrev Stands : List PortRef → ℕ → PortRef → Type 0
Stands homes lid home = (i : ℕ) × ((lid ≡ i + 1) × ((i < length homes) × (get_or homes i home ≡ home)))

stands : (homes : List PortRef) (lid : ℕ) (home : PortRef) → home_of homes lid ≡ Some home → Stands homes lid home
stands homes lid home e = by (lid == 0) refl e
  where
    by : (b : Bool) → (lid == 0) ≡ b → cond b None (slice_get homes (lid - 1)) ≡ Some home → Stands homes lid home
    by true f h = absurd (let no_room : ⊥ = cc h in no_room)
    by false f h =
        elim (slice_get_cases homes (lid - 1)).1 [
          | inl there ↦
              (let is : there.0 ≡ home = cc (there.2, h) in
              let some = eqb-false lid 0 f in
              let less = there.1 in
              (lid - 1, (omega (arith, some), (less, subst (λ (one : PortRef). get_or homes (lid - 1) one ≡ one) is there.3))))
          | inr past ↦ absurd (let no_room : ⊥ = cc (past.1, h) in no_room)
        ]

hung : (homes : List PortRef) (i : ℕ) (d : PortRef) → i < length homes → home_of homes (i + 1) ≡ Some (get_or homes i d)
hung homes i d less =
    let same : i + 1 - 1 ≡ i = omega arith in
    ap (λ b. cond b None (slice_get homes (i + 1 - 1))) (ne_eqb (i + 1) 0 (λ e. let no_room : ⊥ = omega (arith, e) in no_room))
    ∙ (ap (slice_get homes) same ∙ slice_get-get_or homes i d less)

-- ---- what has no route
module _ (routes : SwitchRoutesState) (are : AreRoutes routes) where
  abbrev order : ℕ → ℕ → Bool
  order = precedes routes.ranks routes.guids

  no_gap : (s : ℕ) (to : PortRef) → s < length routes.rows → to.node < length routes.rows → to.port ≢ 0
      → is_gap routes s to ≡ false → LegalPath routes.rows order s to.node
  no_gap s to sl tl is_port e = by (port_towards routes to.node s) refl
    where
      by : (o : Option ℕ) → port_towards routes to.node s ≡ o → LegalPath routes.rows order s to.node
      by (Some port) f = reached routes are s to.node port sl tl f
      by None f =
          absurd (false≢true (sym e ∙ and_from (not (to.port == 0)) (is_none (port_towards routes to.node s)) (ap not (ne_eqb to.port 0 is_port)) (ap is_none f)))

  -- a pair whose switch is no gap, or whose port is none from there
  legal_pair : (a b s d : ℕ) → IsPair routes.homes a b s d
      → (has_gap routes (record { node = s; port = 0 }) ≡ false) ⊎ ((port : ℕ) → home_of routes.homes b ≡ Some (record { node = d; port = port }) → is_gap routes s (record { node = d; port = port }) ≡ false)
      → LegalPath routes.rows order s d
  legal_pair a b s d pair (inr none) =
      no_gap s (record { node = d; port = pair.port }) (attached routes are a (record { node = s; port = 0 }) pair.switch) (attached routes are b (record { node = d; port = pair.port }) pair.adapter) pair.is_port (none pair.port pair.adapter)
  legal_pair a b s d pair (inl none) =
      no_gap s (record { node = d; port = pair.port }) (attached routes are a (record { node = s; port = 0 }) pair.switch) (attached routes are b (record { node = d; port = pair.port }) pair.adapter) pair.is_port gapless
    where
      all : list_any (is_gap routes s) routes.homes ≡ false
      all = by (list_any (is_gap routes s) routes.homes) refl
        where
          by : (c : Bool) → list_any (is_gap routes s) routes.homes ≡ c → list_any (is_gap routes s) routes.homes ≡ false
          by true f = absurd (false≢true (sym none ∙ and_from (carries routes.homes s) (list_any (is_gap routes s) routes.homes) pair.carried f))
          by false f = f

      gapless : is_gap routes s (record { node = d; port = pair.port }) ≡ false
      gapless =
          let at = stands routes.homes b (record { node = d; port = pair.port }) pair.adapter in
          subst (λ (home : PortRef). is_gap routes s home ≡ false) at.1.1.1 (none_at (is_gap routes s) routes.homes at.0 (record { node = d; port = pair.port }) all at.1.1.0)

  pub all_reached : position (has_gap routes) routes.homes ≡ None → AllReached routes.rows order routes.homes
  all_reached none a b s d pair =
      let at = stands routes.homes a (record { node = s; port = 0 }) pair.switch in
      legal_pair a b s d pair (inl (subst (λ (home : PortRef). has_gap routes home ≡ false) at.1.1.1 (first_none (has_gap routes) routes.homes at.0 (record { node = s; port = 0 }) none at.1.1.0)))

  -- the ports of a switch that has a gap
  abbrev at_place : ℕ → PortRef
  at_place i = get_or routes.homes i (record { node = 0; port = 0 })

  pub gap_there : (i : ℕ) → position (has_gap routes) routes.homes ≡ Some i
      → position (is_gap routes (at_place i).node) routes.homes ≡ None → ⊥
  gap_there i e none =
      let from = position-Some (has_gap routes) routes.homes i (record { node = 0; port = 0 }) e in
      let parts = and_parts ((at_place i).port == 0) _ from.1 in
      let more = and_parts (carries routes.homes (at_place i).node) (list_any (is_gap routes (at_place i).node) routes.homes) parts.1 in
      let at = some_at (is_gap routes (at_place i).node) routes.homes (record { node = 0; port = 0 }) more.1 in
      false≢true (sym (first_none (is_gap routes (at_place i).node) routes.homes at.0 (record { node = 0; port = 0 }) none at.1.0) ∙ at.1.1)

  pub first_unreached : (i j : ℕ) → position (has_gap routes) routes.homes ≡ Some i
      → position (is_gap routes (at_place i).node) routes.homes ≡ Some j
      → IsFirstUnreached routes.rows order routes.homes (i + 1) (j + 1)
  first_unreached i j e f =
      record { s = (at_place i).node; d = (at_place j).node; pair = pair; gone = none; earlier = earlier }
    where
      from : (i < length routes.homes) × (has_gap routes (at_place i) ≡ true) × ((k : ℕ) → k < i → has_gap routes (at_place k) ≡ false)
      from = position-Some (has_gap routes) routes.homes i (record { node = 0; port = 0 }) e

      to : (j < length routes.homes) × (is_gap routes (at_place i).node (at_place j) ≡ true) × ((k : ℕ) → k < j → is_gap routes (at_place i).node (at_place k) ≡ false)
      to = position-Some (is_gap routes (at_place i).node) routes.homes j (record { node = 0; port = 0 }) f

      own : ((at_place i).port == 0) ≡ true
      own = (and_parts ((at_place i).port == 0) _ from.1).0

      far : (not ((at_place j).port == 0) ≡ true) × (is_none (port_towards routes (at_place j).node (at_place i).node) ≡ true)
      far = and_parts (not ((at_place j).port == 0)) (is_none (port_towards routes (at_place j).node (at_place i).node)) to.1

      at_own : home_of routes.homes (i + 1) ≡ Some (record { node = (at_place i).node; port = 0 })
      at_own =
          subst (λ (port : ℕ). home_of routes.homes (i + 1) ≡ Some (record { node = (at_place i).node; port = port })) (eqb-true (at_place i).port 0 own)
          (hung routes.homes i (record { node = 0; port = 0 }) from.0)

      pair : IsPair routes.homes (i + 1) (j + 1) (at_place i).node (at_place j).node
      pair =
          record {
            port = (at_place j).port;
            switch = at_own;
            carried = (and_parts (carries routes.homes (at_place i).node) _ (and_parts ((at_place i).port == 0) _ from.1).1).0;
            adapter = hung routes.homes j (record { node = 0; port = 0 }) to.0;
            is_port = eqb-false (at_place j).port 0 (not-true ((at_place j).port == 0) far.0);
          }

      none : NoLegalPath routes.rows order (at_place i).node (at_place j).node
      none =
          gone routes are (at_place i).node (at_place j).node (attached routes are (i + 1) (record { node = (at_place i).node; port = 0 }) at_own) (attached routes are (j + 1) (at_place j) (hung routes.homes j (record { node = 0; port = 0 }) to.0)) (empty (port_towards routes (at_place j).node (at_place i).node) far.1)
        where
          empty : (o : Option ℕ) → is_none o ≡ true → o ≡ None
          empty None h = refl
          empty (Some p) h = absurd (false≢true h)

      same_default : (k : ℕ) (home : PortRef) → k < length routes.homes → get_or routes.homes k home ≡ at_place k
      same_default k home less = get_or_default routes.homes k home (record { node = 0; port = 0 }) less

      earlier : (a b s d : ℕ) → IsPair routes.homes a b s d → (a < i + 1) ⊎ ((a ≡ i + 1) × (b < j + 1))
          → LegalPath routes.rows order s d
      earlier a b s d other (inl less) =
          let at = stands routes.homes a (record { node = s; port = 0 }) other.switch in
          let is = at.1.0 in
          let low : at.0 < i = omega (arith, is, less) in
          legal_pair a b s d other (inl (subst (λ (home : PortRef). has_gap routes home ≡ false) (sym (same_default at.0 (record { node = s; port = 0 }) at.1.1.0) ∙ at.1.1.1) (from.2 at.0 low)))
      earlier a b s d other (inr later) =
          let at = stands routes.homes a (record { node = s; port = 0 }) other.switch in
          let is = at.1.0 in
          let even = later.0 in
          let same : at.0 ≡ i = omega (arith, is, even) in
          let home : at_place i ≡ record { node = s; port = 0 } = ap at_place (sym same) ∙ (sym (same_default at.0 (record { node = s; port = 0 }) at.1.1.0) ∙ at.1.1.1) in
          let node : (at_place i).node ≡ s = ap (λ h. h.node) home in
          legal_pair a b s d other (inr (λ port h.
          let there = stands routes.homes b (record { node = d; port = port }) h in
          let ends = there.1.0 in
          let less = later.1 in
          let low : there.0 < j = omega (arith, ends, less) in
          subst (λ (from : ℕ). is_gap routes from (record { node = d; port = port }) ≡ false) node
          (subst (λ (one : PortRef). is_gap routes (at_place i).node one ≡ false) (sym (same_default there.0 (record { node = d; port = port }) there.1.1.0) ∙ there.1.1.1) (to.2 there.0 low))))

-- ---- numbers of ties
-- those that pass a test are no more than all
kept_least : {X : Type 0} (p : X → Bool) (xs : List X) → length (filter p xs) ≤ length xs
kept_least p [] = omega arith
kept_least p (x ∷ xs) = by (p x) (kept_least p xs)
  where
    by : (b : Bool) → length (filter p xs) ≤ length xs → length (cond b (x ∷ filter p xs) (filter p xs)) ≤ suc (length xs)
    by true more = omega (arith, more)
    by false more = omega (arith, more)

-- ---- channel numbers
module _ (routes : SwitchRoutesState) (are : AreRoutes routes) where
  abbrev comes_before : ℕ → ℕ → Bool
  comes_before = precedes routes.ranks routes.guids

  kept : KeepsTheOrder (length routes.rows) comes_before (place_at routes.places)
  kept =
      subst (λ (n : ℕ). KeepsTheOrder n comes_before (place_at routes.places)) are.count
      (subst (λ (ps : List ℕ). KeepsTheOrder (length routes.guids) comes_before (place_at ps)) (sym are.places) (places_keep routes.ranks routes.guids (subst (λ (n : ℕ). IsOrder n comes_before) (sym are.count) are.order)))

  placed : (s : ℕ) → s < length routes.rows → place_of comes_before (length routes.rows) s ≡ place_at routes.places s
  placed s less =
      let count = are.count in
      ap (λ n. place_of comes_before n s) (sym are.count) ∙ (sym (place_is routes.ranks routes.guids s (omega (arith, less, count))) ∙ ap (λ ps. place_at ps s) (sym are.places))

  side : (s t : ℕ) → is_next_to routes.rows s t ≡ true → (s < length routes.rows) × (t < length routes.rows)
  side s t beside =
      let out = next_leads routes.rows s t beside in
      let low = leads_there routes.rows s out.0 t out.1 in
      (low, (ends routes.rows s t are.cabling low beside).0)

  -- every number that stands for a place is small
  pub place_few : (s : ℕ) → place_at routes.places s ≤ 64
  place_few s =
      let few = are.few in
      elim (cases_lt s (length routes.rows)) [
        | inl less ↦ (let low = kept.below s less in omega (arith, low, few))
        | inr past ↦
            (let long = places_count routes.ranks routes.guids in
            let same : length routes.places ≡ length (places_of routes.ranks routes.guids) = ap length are.places in
            let is : place_at routes.places s ≡ length routes.places = past_end routes.places s (length routes.places) (let count = are.count in omega (arith, past, long, same, count)) in
            let count = are.count in
            omega (arith, is, same, long, count, few))
      ]

  pub number_few : (lid : ℕ) → get_or routes.numbers (lid - 1) 0 ≤ 49151
  number_few lid =
      let few = are.few_lids in
      let is : get_or routes.numbers (lid - 1) 0 ≡ get_or (numbers_of routes.rule routes.places routes.homes) (lid - 1) 0 =
      ap (λ (numbers : List ℕ). get_or numbers (lid - 1) 0) are.numbers in
      let most = by routes.rule in
      omega (arith, few, is, most)
    where
      each : (homes all : List PortRef) (i : ℕ) → get_or (map (number_of_home routes.places all) homes) i 0 ≤ length all
      each [] all i = omega arith
      each (home ∷ homes) all zero = kept_least (λ other. not (other.port == 0) && is_earlier routes.places other home) all
      each (home ∷ homes) all (suc i) = each homes all i

      by : (rule : TieRule) → get_or (numbers_of rule routes.places routes.homes) (lid - 1) 0 ≤ length routes.homes
      by LeastPort = omega arith
      by Balanced = each routes.homes routes.homes (lid - 1)

  pub place_low : (s t : ℕ) → is_next_to routes.rows s t ≡ true → place_at routes.places s < length routes.rows
  place_low s t beside = kept.below s (side s t beside).0

  pub number_is : (s t : ℕ) → is_next_to routes.rows s t ≡ true
      → number_of routes s t ≡ Some (cond (nat_lt (place_at routes.places t) (place_at routes.places s)) (length routes.rows - 1 - place_at routes.places s) (length routes.rows + place_at routes.places s))
  number_is s t beside =
      let low = side s t beside in
      ap (λ b. cond b (Some (channel_number comes_before (length routes.rows) s t)) None) beside
      ∙ (ap (λ b. Some (cond b (length routes.rows - 1 - place_of comes_before (length routes.rows) s) (length routes.rows + place_of comes_before (length routes.rows) s))) (sym (kept.less t s low.1 low.0))
      ∙ ap (λ k. Some (cond (nat_lt (place_at routes.places t) (place_at routes.places s)) (length routes.rows - 1 - k) (length routes.rows + k))) (placed s low.0))

-- ---- lengths
pub downs_count : (rows : List (List Link)) (places : List ℕ) → length (all_downs rows places) ≡ length places
downs_count rows places = length-map-range_with_len (downs_at rows places) 0 (length places)
