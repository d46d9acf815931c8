-- Routes: where the choices lead.
use Rattle.std.proofs.Common.{◌≡◌, ◌≢◌, ℕ, zero, suc, ◌<◌, ◌≤◌, Bool, true, false, not, ◌==◌, ◌&&◌, List, [], ◌∷◌, length, Option, Some, None, refl}
use Rattle.std.proofs.Common.{sym, ap, subst, ◌∙◌, inl, inr, arith}
use Rattle.std.proofs.lemmas.Bool.{and_parts, and_from, or_cases, or_left, or_right, eqb-true, eqb-false, ne_eqb, not-true, not_from_false, false≢true}
use Rattle.std.specs.Option.{option_map_or}
use Rattle.updn_routes.specs.declared.link.Link.{Link}
use Rattle.updn_routes.specs.Cabling.{is_cabling, is_next_to, is_walk, leads}
use Rattle.updn_routes.specs.Choice.{AllChosen, IsChosenOf, IsPickedOf, follows, is_route, is_way_down, is_way_up}
use Rattle.updn_routes.specs.UpDown.{goes_down, is_down, is_legal, is_up}
use Rattle.updn_routes.proofs.CablingLemmas.{ends, leads_next, next_leads, one_end}
use Rattle.updn_routes.proofs.TieLemmas.{shortest_of}

-- ---- one step of a route
pub record FirstStep (rows : List (List Link)) (next : ℕ → Option ℕ) (s t : ℕ) (steps : List ℕ) (d : ℕ) : Type 0 where
  pub away : s ≢ d
  pub port : ℕ
  pub picked : next s ≡ Some port
  pub out : leads rows s port t ≡ true
  pub rest : is_route rows next t steps d ≡ true

pub first_step : (rows : List (List Link)) (next : ℕ → Option ℕ) (s t : ℕ) (steps : List ℕ) (d : ℕ)
    → is_route rows next s (t ∷ steps) d ≡ true → FirstStep rows next s t steps d
first_step rows next s t steps d h = by (next s) refl parts.0
  where
    one : (not (s == d) ≡ true) × ((follows rows next s t && is_route rows next t steps d) ≡ true)
    one = and_parts (not (s == d)) (follows rows next s t && is_route rows next t steps d) h

    parts : (follows rows next s t ≡ true) × (is_route rows next t steps d ≡ true)
    parts = and_parts (follows rows next s t) (is_route rows next t steps d) one.1

    by : (o : Option ℕ) → next s ≡ o → option_map_or (λ port. leads rows s port t) o false ≡ true
        → FirstStep rows next s t steps d
    by None e out = absurd (false≢true out)
    by (Some port) e out = record { away = eqb-false s d (not-true (s == d) one.0); port = port; picked = e; out = out; rest = parts.1 }

pub step_first : (rows : List (List Link)) (next : ℕ → Option ℕ) (s t : ℕ) (steps : List ℕ) (d : ℕ)
    → FirstStep rows next s t steps d → is_route rows next s (t ∷ steps) d ≡ true
step_first rows next s t steps d f =
    and_from (not (s == d)) _ (not_from_false (s == d) (ne_eqb s d f.away))
    (and_from (follows rows next s t) (is_route rows next t steps d) (followed (next s) f.picked) f.rest)
  where
    followed : (o : Option ℕ) → o ≡ Some f.port → option_map_or (λ port. leads rows s port t) o false ≡ true
    followed o e = rw e f.out

pub route_walks : (rows : List (List Link)) (next : ℕ → Option ℕ) (s : ℕ) (steps : List ℕ) (d : ℕ)
    → is_route rows next s steps d ≡ true → is_walk rows s steps d ≡ true
route_walks rows next s [] d h = h
route_walks rows next s (t ∷ steps) d h =
    let f = first_step rows next s t steps d h in
    and_from (is_next_to rows s t) _ (leads_next rows s f.port t f.out) (route_walks rows next t steps d f.rest)

pub not_both : (p : ℕ) → ◌≡◌ {A = Option ℕ} None (Some p) → ⊥
not_both p h = cc

pub same_port : (p q : ℕ) → ◌≡◌ {A = Option ℕ} (Some p) (Some q) → p ≡ q
same_port p q h = cc

-- where each port leads to one switch there is one route
pub one_route : (rows : List (List Link)) (next : ℕ → Option ℕ) (d : ℕ) → is_cabling rows ≡ true
    → (s : ℕ) (one other : List ℕ) → s < length rows → is_route rows next s one d ≡ true
    → is_route rows next s other d ≡ true → one ≡ other
one_route rows next d cabling s [] [] less h k = refl
one_route rows next d cabling s [] (u ∷ other) less h k =
    absurd ((first_step rows next s u other d k).away (eqb-true s d h))
one_route rows next d cabling s (t ∷ one) [] less h k =
    absurd ((first_step rows next s t one d h).away (eqb-true s d k))
one_route rows next d cabling s (t ∷ one) (u ∷ other) less h k =
    let f = first_step rows next s t one d h in
    let g = first_step rows next s u other d k in
    let port = same_port f.port g.port (sym f.picked ∙ g.picked) in
    let same : t ≡ u = one_end rows s f.port t u cabling less f.out (subst (λ (p : ℕ). leads rows s p u ≡ true) (sym port) g.out) in
    let there = (ends rows s t cabling less (leads_next rows s f.port t f.out)).0 in
    let rest : is_route rows next t other d ≡ true = subst (λ (v : ℕ). is_route rows next v other d ≡ true) (sym same) g.rest in
    ap (λ v. v ∷ one) same ∙ ap (λ r. u ∷ r) (one_route rows next d cabling t one other there f.rest rest)

-- ---- ways
pub record WayDown (rows : List (List Link)) (before : ℕ → ℕ → Bool) (s d port t : ℕ) (steps : List ℕ) : Type 0 where
  pub out : leads rows s port t ≡ true
  pub walk : is_walk rows t steps d ≡ true
  pub step : is_down before s t ≡ true
  pub down : goes_down before t steps ≡ true

pub way_down : (rows : List (List Link)) (before : ℕ → ℕ → Bool) (s d port t : ℕ) (steps : List ℕ)
    → is_way_down rows before s d port (t ∷ steps) ≡ true → WayDown rows before s d port t steps
way_down rows before s d port t steps h =
    let one = and_parts (leads rows s port t) _ h in
    let two = and_parts (is_walk rows t steps d) (goes_down before s (t ∷ steps)) one.1 in
    let three = and_parts (is_down before s t) (goes_down before t steps) two.1 in
    record { out = one.0; walk = two.0; step = three.0; down = three.1 }

-- a walk down is a way down, out of some port
pub way_of : (rows : List (List Link)) (before : ℕ → ℕ → Bool) (s d t : ℕ) (steps : List ℕ)
    → is_walk rows s (t ∷ steps) d ≡ true → goes_down before s (t ∷ steps) ≡ true
    → (port : ℕ) × (is_way_down rows before s d port (t ∷ steps) ≡ true)
way_of rows before s d t steps walk down =
    let parts = and_parts (is_next_to rows s t) (is_walk rows t steps d) walk in
    let out = next_leads rows s t parts.0 in
    (out.0, and_from (leads rows s out.0 t) _ out.1 (and_from (is_walk rows t steps d) (goes_down before s (t ∷ steps)) parts.1 down))

pub record WayUp (rows : List (List Link)) (before : ℕ → ℕ → Bool) (next : ℕ → Option ℕ) (s d port t : ℕ) (steps : List ℕ) : Type 0 where
  pub out : leads rows s port t ≡ true
  pub step : is_up before s t ≡ true
  pub rest : is_route rows next t steps d ≡ true

pub way_up : (rows : List (List Link)) (before : ℕ → ℕ → Bool) (next : ℕ → Option ℕ) (s d port t : ℕ) (steps : List ℕ)
    → is_way_up rows before next s d port (t ∷ steps) ≡ true → WayUp rows before next s d port t steps
way_up rows before next s d port t steps h =
    let one = and_parts (leads rows s port t) _ h in
    let two = and_parts (is_up before s t) (is_route rows next t steps d) one.1 in
    record { out = one.0; step = two.0; rest = two.1 }

pub up_way : (rows : List (List Link)) (before : ℕ → ℕ → Bool) (next : ℕ → Option ℕ) (s d port t : ℕ) (steps : List ℕ)
    → WayUp rows before next s d port t steps → is_way_up rows before next s d port (t ∷ steps) ≡ true
up_way rows before next s d port t steps w =
    and_from (leads rows s port t) _ w.out (and_from (is_up before s t) (is_route rows next t steps d) w.step w.rest)

pub neither : (b : Bool) → b ≡ false → b ≡ true → ⊥
neither b e f = false≢true (sym e ∙ f)

-- ---- routes by the choice
-- a route that goes down, in at most so many steps
pub record DownRoute (rows : List (List Link)) (before : ℕ → ℕ → Bool) (next : ℕ → Option ℕ) (s d most : ℕ) : Type 0 where
  pub steps : List ℕ
  pub route : is_route rows next s steps d ≡ true
  pub down : goes_down before s steps ≡ true
  pub short : length steps ≤ most

module _ (rows : List (List Link)) (before : ℕ → ℕ → Bool) (pick : ℕ → ℕ → ℕ) (next : ℕ → Option ℕ) (d : ℕ) (cabling : is_cabling rows ≡ true)
    (chosen : AllChosen rows before pick next d) where
  -- where some way leads down, the choice is down
  pub chosen_down : (s port : ℕ) (steps : List ℕ) → s < length rows → s ≢ d
      → is_way_down rows before s d port steps ≡ true
      → (p : ℕ) × ((next s ≡ Some p) × IsPickedOf (pick s) (is_way_down rows before s d) p)
  chosen_down s port steps less away way = by (next s) refl (chosen s less away)
    where
      by : (o : Option ℕ) → next s ≡ o → IsChosenOf (pick s) (is_way_down rows before s d) (is_way_up rows before next s d) o
          → (p : ℕ) × ((next s ≡ Some p) × IsPickedOf (pick s) (is_way_down rows before s d) p)
      by None e h = absurd (neither (is_way_down rows before s d port steps) (h.0 port steps) way)
      by (Some p) e (inl h) = (p, (e, h))
      by (Some p) e (inr h) = absurd (neither (is_way_down rows before s d port steps) (h.0 port steps) way)

  -- and where it can go down all the way, it does, and by a shortest way
  pub down_route : (k s : ℕ) (walk : List ℕ) → length walk ≤ k → s < length rows → is_walk rows s walk d ≡ true
      → goes_down before s walk ≡ true → DownRoute rows before next s d (length walk)
  down_route k s [] fits less walk down = record { steps = []; route = walk; down = refl; short = omega arith }
  down_route zero s (t ∷ rest) fits less walk down = absurd (let no_room : ⊥ = omega (arith, fits) in no_room)
  down_route (suc k) s (t ∷ rest) fits less walk down = by (s == d) refl (λ u us. down_route k u us)
    where
      Shorter : Type 0
      Shorter =
          (u : ℕ) (us : List ℕ) → length us ≤ k → u < length rows → is_walk rows u us d ≡ true → goes_down before u us ≡ true → DownRoute rows before next u d (length us)

      on : Shorter → s ≢ d → (p : ℕ) → next s ≡ Some p → (path : List ℕ) → is_way_down rows before s d p path ≡ true
          → length path ≤ length (t ∷ rest) → DownRoute rows before next s d (length (t ∷ rest))
      on shorter away p e [] way short = absurd (false≢true way)
      on shorter away p e (u ∷ us) way short =
          let w = way_down rows before s d p u us way in
          let there = (ends rows s u cabling less (leads_next rows s p u w.out)).0 in
          let more = shorter u us (omega (arith, short, fits)) there w.walk w.down in
          record {
            steps = u ∷ more.steps;
            route = step_first rows next s u more.steps d (record { away = away; port = p; picked = e; out = w.out; rest = more.route });
            down = and_from (is_down before s u) (goes_down before u more.steps) w.step more.down;
            short = let most = more.short in omega (arith, most, short);
          }

      by : (b : Bool) → (s == d) ≡ b → Shorter → DownRoute rows before next s d (length (t ∷ rest))
      by true e shorter = record { steps = []; route = e; down = refl; short = omega arith }
      by false e shorter =
          let way = way_of rows before s d t rest walk down in
          let away = eqb-false s d e in
          let picked = chosen_down s way.0 (t ∷ rest) less away way.1 in
          let best = shortest_of (pick s) (is_way_down rows before s d) picked.0 picked.1.1 in
          on shorter away picked.0 picked.1.0 best.path best.way (best.shortest way.0 (t ∷ rest) way.1)

  -- every route does so
  pub down_first : (s : ℕ) (steps down : List ℕ) → s < length rows → is_route rows next s steps d ≡ true
      → is_walk rows s down d ≡ true → goes_down before s down ≡ true
      → (goes_down before s steps ≡ true) × (length steps ≤ length down)
  down_first s steps down less route walk falls =
      let best = down_route (length down) s down (omega arith) less walk falls in
      let same = one_route rows next d cabling s best.steps steps less best.route route in
      (subst (λ (r : List ℕ). goes_down before s r ≡ true) same best.down, subst (λ (r : List ℕ). length r ≤ length down) same best.short)

  -- where a port is chosen there is a route
  pub arrives : (s port : ℕ) → s < length rows → s ≢ d → next s ≡ Some port
      → (steps : List ℕ) × (is_route rows next s steps d ≡ true)
  arrives s port less away picked = by (next s) refl (chosen s less away)
    where
      down : (p : ℕ) (path : List ℕ) → is_way_down rows before s d p path ≡ true
          → (steps : List ℕ) × (is_route rows next s steps d ≡ true)
      down p [] way = absurd (false≢true way)
      down p (t ∷ steps) way =
          let w = way_down rows before s d p t steps way in
          let route = down_route (length (t ∷ steps)) s (t ∷ steps) (omega arith) less
          (and_from (is_next_to rows s t) _ (leads_next rows s p t w.out) w.walk) (and_from (is_down before s t) _ w.step w.down) in
          (route.steps, route.route)

      up : (p : ℕ) → next s ≡ Some p → (path : List ℕ) → is_way_up rows before next s d p path ≡ true
          → (steps : List ℕ) × (is_route rows next s steps d ≡ true)
      up p e [] way = absurd (false≢true way)
      up p e (t ∷ steps) way =
          let w = way_up rows before next s d p t steps way in
          (t ∷ steps, step_first rows next s t steps d (record { away = away; port = p; picked = e; out = w.out; rest = w.rest }))

      by : (o : Option ℕ) → next s ≡ o → IsChosenOf (pick s) (is_way_down rows before s d) (is_way_up rows before next s d) o
          → (steps : List ℕ) × (is_route rows next s steps d ≡ true)
      by None e h = absurd (not_both port (sym e ∙ picked))
      by (Some p) e (inl h) = let best = shortest_of (pick s) (is_way_down rows before s d) p h in down p best.path best.way
      by (Some p) e (inr h) = let best = shortest_of (pick s) (is_way_up rows before next s d) p h.1 in up p e best.path best.way

  -- a route is legal
  pub route_legal : (s : ℕ) (steps : List ℕ) → s < length rows → is_route rows next s steps d ≡ true
      → is_legal before s steps ≡ true
  route_legal s [] less route = refl
  route_legal s (t ∷ steps) less route = by (next s) refl (chosen s less f.away) (route_legal t steps there f.rest)
    where
      f : FirstStep rows next s t steps d
      f = first_step rows next s t steps d route

      there : t < length rows
      there = (ends rows s t cabling less (leads_next rows s f.port t f.out)).0

      down : (p : ℕ) (path : List ℕ) → is_way_down rows before s d p path ≡ true
          → is_legal before s (t ∷ steps) ≡ true
      down p [] way = absurd (false≢true way)
      down p (u ∷ us) way =
          let w = way_down rows before s d p u us way in
          or_right (is_up before s t && is_legal before t steps) _ (down_first s (t ∷ steps) (u ∷ us) less route
          (and_from (is_next_to rows s u) _ (leads_next rows s p u w.out) w.walk) (and_from (is_down before s u) _ w.step w.down)).0

      up : is_legal before t steps ≡ true → (p : ℕ) → next s ≡ Some p → (path : List ℕ)
          → is_way_up rows before next s d p path ≡ true → is_legal before s (t ∷ steps) ≡ true
      up later p e [] way = absurd (false≢true way)
      up later p e (u ∷ us) way =
          let w = way_up rows before next s d p u us way in
          let port = same_port p f.port (sym e ∙ f.picked) in
          let same = one_end rows s f.port u t cabling less (subst (λ (q : ℕ). leads rows s q u ≡ true) port w.out) f.out in
          or_left _ (goes_down before s (t ∷ steps)) (and_from (is_up before s t) (is_legal before t steps) (subst (λ (v : ℕ). is_up before s v ≡ true) same w.step) later)

      by : (o : Option ℕ) → next s ≡ o → IsChosenOf (pick s) (is_way_down rows before s d) (is_way_up rows before next s d) o
          → is_legal before t steps ≡ true → is_legal before s (t ∷ steps) ≡ true
      by None e h later = absurd (not_both f.port (sym e ∙ f.picked))
      by (Some p) e (inl h) later = let best = shortest_of (pick s) (is_way_down rows before s d) p h in down p best.path best.way
      by (Some p) e (inr h) later = let best = shortest_of (pick s) (is_way_up rows before next s d) p h.1 in up later p e best.path best.way

  -- where a legal walk leads there is a route
  pub legal_routed : (s : ℕ) (walk : List ℕ) → s < length rows → is_walk rows s walk d ≡ true
      → is_legal before s walk ≡ true → (steps : List ℕ) × (is_route rows next s steps d ≡ true)
  legal_routed s [] less walk legal = ([], walk)
  legal_routed s (t ∷ rest) less walk legal = by (s == d) refl (λ k. legal_routed t rest there w.1 k)
    where
      w : (is_next_to rows s t ≡ true) × (is_walk rows t rest d ≡ true)
      w = and_parts (is_next_to rows s t) (is_walk rows t rest d) walk

      there : t < length rows
      there = (ends rows s t cabling less w.0).0

      Routed : ℕ → Type 0
      Routed v = (steps : List ℕ) × (is_route rows next v steps d ≡ true)

      on : s ≢ d → (port : ℕ) (steps : List ℕ) → is_way_up rows before next s d port steps ≡ true → (o : Option ℕ)
          → next s ≡ o
          → IsChosenOf (pick s) (is_way_down rows before s d) (is_way_up rows before next s d) o → Routed s
      on away port steps way None e h =
          absurd (neither (is_way_up rows before next s d port steps) (h.1 port steps) way)
      on away port steps way (Some p) e h = arrives s p less away e

      by : (b : Bool) → (s == d) ≡ b → (is_legal before t rest ≡ true → Routed t) → Routed s
      by true e later = ([], e)
      by false e later =
          elim (or_cases (is_up before s t && is_legal before t rest) (goes_down before s (t ∷ rest)) legal) [
            | inl up ↦
                let parts = and_parts (is_up before s t) (is_legal before t rest) up in
                let more : Routed t = later parts.1 in
                let out = next_leads rows s t w.0 in
                let away = eqb-false s d e in
                on away out.0 (t ∷ more.0) (up_way rows before next s d out.0 t more.0 (record { out = out.1; step = parts.0; rest = more.1 })) (next s) refl (chosen s less away)
            | inr down ↦ let best = down_route (length (t ∷ rest)) s (t ∷ rest) (omega arith) less walk down in (best.steps, best.route)
          ]

  -- where nothing is chosen no legal walk leads
  pub none_legal : (s : ℕ) (walk : List ℕ) → s < length rows → s ≢ d → next s ≡ None
      → (is_walk rows s walk d && is_legal before s walk) ≡ false
  none_legal s walk less away gone = by (is_walk rows s walk d && is_legal before s walk) refl
    where
      off : (steps : List ℕ) → is_route rows next s steps d ≡ true → ⊥
      off [] route = away (eqb-true s d route)
      off (t ∷ steps) route = let f = first_step rows next s t steps d route in not_both f.port (sym gone ∙ f.picked)

      by : (b : Bool) → (is_walk rows s walk d && is_legal before s walk) ≡ b
          → (is_walk rows s walk d && is_legal before s walk) ≡ false
      by false e = e
      by true e =
          let parts = and_parts (is_walk rows s walk d) (is_legal before s walk) e in
          let routed = legal_routed s walk less parts.0 parts.1 in
          absurd (off routed.0 routed.1)
