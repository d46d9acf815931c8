-- A cabling whose switches are numbered otherwise, as by their places, has the same walks, and the same choices.
use Rattle.std.proofs.Common.{◌≡◌, ℕ, suc, ◌<◌, Bool, true, false, ◌==◌, ◌&&◌, nat_lt, List, [], ◌∷◌, map, length, Option, Some, None, refl}
use Rattle.std.proofs.Common.{sym, ap, subst, ◌∙◌, inl, inr, arith}
use Rattle.std.specs.List.{list_all, list_any}
use Rattle.std.proofs.lemmas.Bool.{and_parts, and_from, or_cases, or_left, or_right, eqb-true, eqb-false, eq-eqb, ne_eqb, ltb-true, false≢true}
use Rattle.step_results.proofs.TestLemmas.{same_and, same_or}
use Rattle.updn_routes.specs.declared.link.Link.{Link}
use Rattle.updn_routes.specs.Cabling.{is_cabling, is_next_to, is_walk, leads, links_of}
use Rattle.updn_routes.specs.Choice.{AllChosen, HasNone, IsChosenOf, IsPickedOf, IsShortestOf, is_route, is_way_down, is_way_up}
use Rattle.updn_routes.specs.Laws.{KeepsTheOrder, KeepsTheWalks}
use Rattle.updn_routes.specs.Places.{IsPlaced, placed_link}
use Rattle.updn_routes.specs.UpDown.{goes_down, is_legal}
use Rattle.updn_routes.proofs.CablingLemmas.{ends, goes, leads_next, links_within}
use Rattle.updn_routes.proofs.RouteLemmas.{first_step, step_first, up_way, way_up}

long_map : (f : ℕ → ℕ) (xs : List ℕ) → length (map f xs) ≡ length xs
long_map f [] = refl
long_map f (x ∷ xs) = ap suc (long_map f xs)

-- ---- ways that are the same, reported by places
-- a way of the one kind is one of the other between the places, and each of these is one of those
record SameWays (place : ℕ → ℕ) (w v : ℕ → List ℕ → Bool) : Type 0 where
  there : (p : ℕ) (path : List ℕ) → w p path ≡ true → v p (map place path) ≡ true
  back : (p : ℕ) (path : List ℕ) → v p path ≡ true
      → (steps : List ℕ) × ((map place steps ≡ path) × (w p steps ≡ true))

none_moves : (place : ℕ → ℕ) (w v : ℕ → List ℕ → Bool) → SameWays place w v → HasNone v → HasNone w
none_moves place w v same none p path = by (w p path) refl
  where
    by : (b : Bool) → w p path ≡ b → w p path ≡ false
    by false e = e
    by true e = absurd (false≢true (sym (none p (map place path)) ∙ same.there p path e))

shortest_moves : (place : ℕ → ℕ) (w v : ℕ → List ℕ → Bool) → SameWays place w v → (p : ℕ) → IsShortestOf v p → IsShortestOf w p
shortest_moves place w v same p best =
    let own = same.back p best.path best.way in
    let long : length best.path ≡ length own.0 = ap (λ (r : List ℕ). length r) (sym own.1.0) ∙ long_map place own.0 in
    record {
      path = own.0;
      way = own.1.1;
      shortest = λ q steps way. let far = best.shortest q (map place steps) (same.there q steps way) in let all = long_map place steps in omega (arith, far, all, long);
    }

shortest_there : (place : ℕ → ℕ) (w v : ℕ → List ℕ → Bool) → SameWays place w v → (p : ℕ) → IsShortestOf w p → IsShortestOf v p
shortest_there place w v same p best =
    record {
      path = map place best.path;
      way = same.there p best.path best.way;
      shortest = λ q steps way.
          let own = same.back q steps way in
          let far = best.shortest q own.0 own.1.1 in
          let long = long_map place best.path in
          let all : length steps ≡ length own.0 = ap (λ (r : List ℕ). length r) (sym own.1.0) ∙ long_map place own.0 in
          omega (arith, far, all, long);
    }

picked_moves : (place : ℕ → ℕ) (w v : ℕ → List ℕ → Bool) → SameWays place w v → (pick : ℕ → ℕ) (p : ℕ) → IsPickedOf pick v p → IsPickedOf pick w p
picked_moves place w v same pick p picked =
    record {
      ties = picked.ties;
      are = record {
        rising = picked.are.rising;
        each = λ port has. shortest_moves place w v same port (picked.are.each port has);
        all = λ port best. picked.are.all port (shortest_there place w v same port best);
      };
      picked = picked.picked;
    }

choice_moves : (place : ℕ → ℕ) (pick : ℕ → ℕ) (down down_there up up_there : ℕ → List ℕ → Bool) → SameWays place down down_there
    → SameWays place up up_there
    → (o : Option ℕ) → IsChosenOf pick down_there up_there o → IsChosenOf pick down up o
choice_moves place pick down down_there up up_there d u None h =
    (none_moves place down down_there d h.0, none_moves place up up_there u h.1)
choice_moves place pick down down_there up up_there d u (Some p) (inl h) = inl (picked_moves place down down_there d pick p h)
choice_moves place pick down down_there up up_there d u (Some p) (inr h) =
    inr (none_moves place down down_there d h.0, picked_moves place up up_there u pick p h.1)

-- ---- places
-- the row of each switch stands at its place, where it keeps its order, and no two switches have one
pub record IsMoved (rows placed : List (List Link)) (before too : ℕ → ℕ → Bool) (place : ℕ → ℕ) : Type 0 where
  pub below : (s : ℕ) → s < length rows → place s < length placed
  pub less : (s t : ℕ) → s < length rows → t < length rows → too (place s) (place t) ≡ before s t
  pub own : (s t : ℕ) → s < length rows → t < length rows → place s ≡ place t → s ≡ t
  pub each : (s : ℕ) → s < length rows → links_of placed (place s) ≡ map (placed_link place) (links_of rows s)

module _ (rows placed : List (List Link)) (before too : ℕ → ℕ → Bool) (place : ℕ → ℕ) (cabling : is_cabling rows ≡ true)
    (is : IsMoved rows placed before too place) where
  same_place : (s t : ℕ) → s < length rows → t < length rows → (place s == place t) ≡ (s == t)
  same_place s t sl tl = by (s == t) refl
    where
      by : (b : Bool) → (s == t) ≡ b → (place s == place t) ≡ (s == t)
      by true e = eq-eqb (place s) (place t) (ap place (eqb-true s t e)) ∙ sym e
      by false e = ne_eqb (place s) (place t) (λ h. eqb-false s t e (is.own s t sl tl h)) ∙ sym e

  abbrev Within : List Link → Type 0
  Within row = list_all (λ link. nat_lt link.to (length rows)) row ≡ true

  ports_in : (port t : ℕ) (row : List Link) → t < length rows → Within row
      → list_any (goes port (place t)) (map (placed_link place) row) ≡ list_any (goes port t) row
  ports_in port t [] tl all = refl
  ports_in port t (link ∷ row) tl all =
      let parts = and_parts (nat_lt link.to (length rows)) (list_all (λ l. nat_lt l.to (length rows)) row) all in
      let one : goes port (place t) (placed_link place link) ≡ goes port t link = ap (λ (b : Bool). (link.port == port) && b) (same_place link.to t (ltb-true link.to (length rows) parts.0) tl) in
      rw (one, ports_in port t row tl parts.1) refl

  leads_same : (s port t : ℕ) → s < length rows → t < length rows
      → leads placed (place s) port (place t) ≡ leads rows s port t
  leads_same s port t sl tl =
      ap (λ (row : List Link). list_any (goes port (place t)) row) (is.each s sl) ∙ ports_in port t (links_of rows s) tl (links_within rows s cabling sl)

  next_in : (t : ℕ) (row : List Link) → t < length rows → Within row
      → list_any (λ link. link.to == place t) (map (placed_link place) row) ≡ list_any (λ link. link.to == t) row
  next_in t [] tl all = refl
  next_in t (link ∷ row) tl all =
      let parts = and_parts (nat_lt link.to (length rows)) (list_all (λ l. nat_lt l.to (length rows)) row) all in
      rw (same_place link.to t (ltb-true link.to (length rows) parts.0) tl, next_in t row tl parts.1) refl

  next_same : (s t : ℕ) → s < length rows → t < length rows
      → is_next_to placed (place s) (place t) ≡ is_next_to rows s t
  next_same s t sl tl =
      ap (λ (row : List Link). list_any (λ link. link.to == place t) row) (is.each s sl) ∙ next_in t (links_of rows s) tl (links_within rows s cabling sl)

  -- whatever stands next to a place is the place of a switch
  abbrev FromRow : List Link → ℕ → Type 0
  FromRow row v = (t : ℕ) × (t < length rows) × (place t ≡ v) × (list_any (λ link. link.to == t) row ≡ true)

  from_row : (v : ℕ) (row : List Link) → Within row
      → list_any (λ link. link.to == v) (map (placed_link place) row) ≡ true → FromRow row v
  from_row v [] all h = absurd (false≢true h)
  from_row v (link ∷ row) all h =
      let parts = and_parts (nat_lt link.to (length rows)) (list_all (λ l. nat_lt l.to (length rows)) row) all in
      elim (or_cases (place link.to == v) (list_any (λ l. l.to == v) (map (placed_link place) row)) h) [
        | inl here ↦ (link.to, ltb-true link.to (length rows) parts.0, eqb-true (place link.to) v here, or_left (link.to == link.to) _ (eq-eqb link.to link.to refl))
        | inr later ↦ let more : FromRow row v = from_row v row parts.1 later in (more.0, more.1, more.2, or_right (link.to == more.0) _ more.3)
      ]

  from_place : (s v : ℕ) → s < length rows → is_next_to placed (place s) v ≡ true → FromRow (links_of rows s) v
  from_place s v sl h =
      from_row v (links_of rows s) (links_within rows s cabling sl) (subst (λ (row : List Link). list_any (λ link. link.to == v) row ≡ true) (is.each s sl) h)

  -- ---- walks
  walks_same : (s d : ℕ) (steps : List ℕ) → s < length rows → d < length rows
      → list_all (λ t. nat_lt t (length rows)) steps ≡ true
      → is_walk placed (place s) (map place steps) (place d) ≡ is_walk rows s steps d
  walks_same s d [] sl dl all = same_place s d sl dl
  walks_same s d (t ∷ steps) sl dl all =
      let parts = and_parts (nat_lt t (length rows)) (list_all (λ t. nat_lt t (length rows)) steps) all in
      let tl = ltb-true t (length rows) parts.0 in
      same_and (is_next_to placed (place s) (place t)) (is_next_to rows s t) _ _ (next_same s t sl tl) (walks_same t d steps tl dl parts.1)

  abbrev Between : ℕ → ℕ → List ℕ → Type 0
  Between s d steps = (between : List ℕ) × (map place between ≡ steps) × (is_walk rows s between d ≡ true)

  no_other : (s d : ℕ) (steps : List ℕ) → s < length rows → d < length rows
      → is_walk placed (place s) steps (place d) ≡ true → Between s d steps
  no_other s d [] sl dl walk = ([], refl, sym (same_place s d sl dl) ∙ walk)
  no_other s d (v ∷ steps) sl dl walk =
      let parts = and_parts (is_next_to placed (place s) v) (is_walk placed v steps (place d)) walk in
      let t = from_place s v sl parts.0 in
      let more : Between t.0 d steps = no_other t.0 d steps t.1 dl (subst (λ (k : ℕ). is_walk placed k steps (place d) ≡ true) (sym t.2) parts.1) in
      (t.0 ∷ more.0, ap (λ k. k ∷ map place more.0) t.2 ∙ ap (λ r. v ∷ r) more.1, and_from (is_next_to rows s t.0) _ t.3 more.2)

  -- ---- ways down
  walk_there : (s d : ℕ) (steps : List ℕ) → s < length rows → d < length rows → is_walk rows s steps d ≡ true
      → is_walk placed (place s) (map place steps) (place d) ≡ true
  walk_there s d [] sl dl walk = same_place s d sl dl ∙ walk
  walk_there s d (t ∷ steps) sl dl walk =
      let parts = and_parts (is_next_to rows s t) (is_walk rows t steps d) walk in
      let tl = (ends rows s t cabling sl parts.0).0 in
      and_from (is_next_to placed (place s) (place t)) _ (next_same s t sl tl ∙ parts.0) (walk_there t d steps tl dl parts.1)

  down_same : (s d : ℕ) (steps : List ℕ) → s < length rows → is_walk rows s steps d ≡ true
      → goes_down too (place s) (map place steps) ≡ goes_down before s steps
  down_same s d [] sl walk = refl
  down_same s d (t ∷ steps) sl walk =
      let parts = and_parts (is_next_to rows s t) (is_walk rows t steps d) walk in
      let tl = (ends rows s t cabling sl parts.0).0 in
      same_and (too (place s) (place t)) (before s t) _ _ (is.less s t sl tl) (down_same t d steps tl parts.1)

  legal_same : (s d : ℕ) (steps : List ℕ) → s < length rows → is_walk rows s steps d ≡ true
      → is_legal too (place s) (map place steps) ≡ is_legal before s steps
  legal_same s d [] sl walk = refl
  legal_same s d (t ∷ steps) sl walk =
      let parts = and_parts (is_next_to rows s t) (is_walk rows t steps d) walk in
      let tl = (ends rows s t cabling sl parts.0).0 in
      same_or _ _ _ _ (same_and (too (place t) (place s)) (before t s) _ _ (is.less t s tl sl) (legal_same t d steps tl parts.1))
      (down_same s d (t ∷ steps) sl walk)

  -- a port of a place leads to the place of a switch
  port_back : (s port v : ℕ) → s < length rows → leads placed (place s) port v ≡ true
      → (t : ℕ) × (t < length rows) × (place t ≡ v) × (leads rows s port t ≡ true)
  port_back s port v sl h =
      let t = from_place s v sl (leads_next placed (place s) port v h) in
      (t.0, t.1, t.2, sym (leads_same s port t.0 sl t.1) ∙ subst (λ (k : ℕ). leads placed (place s) port k ≡ true) (sym t.2) h)

  downs_same : (s d : ℕ) → s < length rows → d < length rows
      → SameWays place (is_way_down rows before s d) (is_way_down placed too (place s) (place d))
  downs_same s d sl dl = record { there = there; back = back }
    where
      there : (p : ℕ) (path : List ℕ) → is_way_down rows before s d p path ≡ true
          → is_way_down placed too (place s) (place d) p (map place path) ≡ true
      there p [] way = absurd (false≢true way)
      there p (t ∷ steps) way =
          let one = and_parts (leads rows s p t) _ way in
          let two = and_parts (is_walk rows t steps d) (goes_down before s (t ∷ steps)) one.1 in
          let beside = leads_next rows s p t one.0 in
          let tl = (ends rows s t cabling sl beside).0 in
          let all = and_from (is_next_to rows s t) (is_walk rows t steps d) beside two.0 in
          and_from (leads placed (place s) p (place t)) _ (leads_same s p t sl tl ∙ one.0)
          (and_from (is_walk placed (place t) (map place steps) (place d)) _ (walk_there t d steps tl dl two.0) (down_same s d (t ∷ steps) sl all ∙ two.1))

      back : (p : ℕ) (path : List ℕ) → is_way_down placed too (place s) (place d) p path ≡ true
          → (steps : List ℕ) × ((map place steps ≡ path) × (is_way_down rows before s d p steps ≡ true))
      back p [] way = absurd (false≢true way)
      back p (v ∷ path) way =
          let one = and_parts (leads placed (place s) p v) _ way in
          let two = and_parts (is_walk placed v path (place d)) (goes_down too (place s) (v ∷ path)) one.1 in
          let t = port_back s p v sl one.0 in
          let more : Between t.0 d path = no_other t.0 d path t.1 dl (subst (λ (k : ℕ). is_walk placed k path (place d) ≡ true) (sym t.2) two.0) in
          let same : map place (t.0 ∷ more.0) ≡ v ∷ path = ap (λ k. k ∷ map place more.0) t.2 ∙ ap (λ r. v ∷ r) more.1 in
          let all = and_from (is_next_to rows s t.0) (is_walk rows t.0 more.0 d) (leads_next rows s p t.0 t.3) more.2 in
          let down = sym (down_same s d (t.0 ∷ more.0) sl all) ∙ subst (λ (r : List ℕ). goes_down too (place s) r ≡ true) (sym same) two.1 in
          (t.0 ∷ more.0, (same, and_from (leads rows s p t.0) _ t.3 (and_from (is_walk rows t.0 more.0 d) (goes_down before s (t.0 ∷ more.0)) more.2 down)))

  -- ---- routes, and ways up
  module _ (next : ℕ → Option ℕ) where
    abbrev own : ℕ → Option ℕ
    own s = next (place s)

    route_there : (s d : ℕ) (steps : List ℕ) → s < length rows → d < length rows → is_route rows own s steps d ≡ true
        → is_route placed next (place s) (map place steps) (place d) ≡ true
    route_there s d [] sl dl route = same_place s d sl dl ∙ route
    route_there s d (t ∷ steps) sl dl route =
        let f = first_step rows own s t steps d route in
        let tl = (ends rows s t cabling sl (leads_next rows s f.port t f.out)).0 in
        step_first placed next (place s) (place t) (map place steps) (place d) (record {
          away = λ same. f.away (is.own s d sl dl same);
          port = f.port;
          picked = f.picked;
          out = leads_same s f.port t sl tl ∙ f.out;
          rest = route_there t d steps tl dl f.rest;
        })

    abbrev Routed : ℕ → ℕ → List ℕ → Type 0
    Routed s d path = (steps : List ℕ) × (map place steps ≡ path) × (is_route rows own s steps d ≡ true)

    route_back : (s d : ℕ) (path : List ℕ) → s < length rows → d < length rows
        → is_route placed next (place s) path (place d) ≡ true → Routed s d path
    route_back s d [] sl dl route = ([], refl, sym (same_place s d sl dl) ∙ route)
    route_back s d (v ∷ path) sl dl route =
        let f = first_step placed next (place s) v path (place d) route in
        let t = port_back s f.port v sl f.out in
        let more : Routed t.0 d path = route_back t.0 d path t.1 dl (subst (λ (k : ℕ). is_route placed next k path (place d) ≡ true) (sym t.2) f.rest) in (
          t.0 ∷ more.0,
          ap (λ k. k ∷ map place more.0) t.2 ∙ ap (λ r. v ∷ r) more.1,
          step_first rows own s t.0 more.0 d (record { away = λ same. f.away (ap place same); port = f.port; picked = f.picked; out = t.3; rest = more.2 }),
        )

    ups_same : (s d : ℕ) → s < length rows → d < length rows
        → SameWays place (is_way_up rows before own s d) (is_way_up placed too next (place s) (place d))
    ups_same s d sl dl = record { there = there; back = back }
      where
        there : (p : ℕ) (path : List ℕ) → is_way_up rows before own s d p path ≡ true
            → is_way_up placed too next (place s) (place d) p (map place path) ≡ true
        there p [] way = absurd (false≢true way)
        there p (t ∷ steps) way =
            let w = way_up rows before own s d p t steps way in
            let tl = (ends rows s t cabling sl (leads_next rows s p t w.out)).0 in
            up_way placed too next (place s) (place d) p (place t) (map place steps)
            (record { out = leads_same s p t sl tl ∙ w.out; step = is.less t s tl sl ∙ w.step; rest = route_there t d steps tl dl w.rest })

        back : (p : ℕ) (path : List ℕ) → is_way_up placed too next (place s) (place d) p path ≡ true
            → (steps : List ℕ) × ((map place steps ≡ path) × (is_way_up rows before own s d p steps ≡ true))
        back p [] way = absurd (false≢true way)
        back p (v ∷ path) way =
            let w = way_up placed too next (place s) (place d) p v path way in
            let t = port_back s p v sl w.out in
            let more : Routed t.0 d path = route_back t.0 d path t.1 dl (subst (λ (k : ℕ). is_route placed next k path (place d) ≡ true) (sym t.2) w.rest) in
            let step = sym (is.less t.0 s t.1 sl) ∙ subst (λ (k : ℕ). too k (place s) ≡ true) (sym t.2) w.step in
            (t.0 ∷ more.0, (ap (λ k. k ∷ map place more.0) t.2 ∙ ap (λ r. v ∷ r) more.1, up_way rows before own s d p t.0 more.0 (record { out = t.3; step = step; rest = more.2 })))

    pub choices_move : (pick : ℕ → ℕ → ℕ) (d : ℕ) → d < length rows → AllChosen placed too pick next (place d)
        → AllChosen rows before (λ s. pick (place s)) own d
    choices_move pick d dl chosen s sl away =
        choice_moves place (pick (place s)) (is_way_down rows before s d) (is_way_down placed too (place s) (place d)) (is_way_up rows before own s d) (is_way_up placed too next (place s) (place d))
        (downs_same s d sl dl) (ups_same s d sl dl) (next (place s)) (chosen (place s) (is.below s sl) (λ same. away (is.own s d sl dl same)))

-- ---- by their places in the order
is_moved : (rows placed : List (List Link)) (before : ℕ → ℕ → Bool) (place : ℕ → ℕ) → KeepsTheOrder (length rows) before place
    → IsPlaced rows place placed → IsMoved rows placed before nat_lt place
is_moved rows placed before place keeps is =
    record {
      below = λ s low. let below = keeps.below s low in let count = is.count in omega (arith, below, count);
      less = keeps.less;
      own = keeps.own;
      each = is.each;
    }

module _ (rows placed : List (List Link)) (before : ℕ → ℕ → Bool) (place : ℕ → ℕ) (cabling : is_cabling rows ≡ true)
    (keeps : KeepsTheOrder (length rows) before place) (is : IsPlaced rows place placed) where
  abbrev by_place : IsMoved rows placed before nat_lt place
  by_place = is_moved rows placed before place keeps is

  pub keeps_walks : KeepsTheWalks rows placed before place
  keeps_walks =
      record {
        links = leads_same rows placed before nat_lt place cabling by_place;
        walks = walks_same rows placed before nat_lt place cabling by_place;
        no_other = no_other rows placed before nat_lt place cabling by_place;
        legal = legal_same rows placed before nat_lt place cabling by_place;
      }

  pub keeps_choices : (pick : ℕ → ℕ → ℕ) (next : ℕ → Option ℕ) (d : ℕ) → d < length rows → AllChosen placed nat_lt pick next (place d)
      → AllChosen rows before (λ s. pick (place s)) (λ s. next (place s)) d
  keeps_choices pick next d low chosen = choices_move rows placed before nat_lt place cabling by_place next pick d low chosen
