-- Choices that both obey the definition are the same: first where some way leads down, and then place by place.
use Rattle.std.proofs.Common.{◌≡◌, ◌≢◌, ℕ, zero, suc, ◌<◌, ◌≤◌, Bool, true, List, [], ◌∷◌, length, Option, Some, None, refl, sym, subst, ◌∙◌, inl, inr, arith}
use Rattle.std.proofs.lemmas.Bool.{and_parts, and_from, false≢true}
use Rattle.updn_routes.specs.declared.link.Link.{Link}
use Rattle.updn_routes.specs.Cabling.{is_cabling, is_next_to, is_walk, leads}
use Rattle.updn_routes.specs.Choice.{AllChosen, IsChosenOf, IsShortestOf, is_route, is_way_down, is_way_up}
use Rattle.updn_routes.specs.Order.{IsOrder, place_of}
use Rattle.updn_routes.specs.UpDown.{goes_down, is_down, is_up}
use Rattle.updn_routes.proofs.CablingLemmas.{ends, leads_next, one_end}
use Rattle.updn_routes.proofs.PlaceLemmas.{place_less}
use Rattle.updn_routes.proofs.RouteLemmas.{FirstStep, chosen_down, down_first, first_step, neither, not_both, route_walks, same_port, step_first, up_way, way_down, way_up}
use Rattle.updn_routes.proofs.TieLemmas.{one_picked, shortest_of}

-- the shortest of the same ways
shortest_same : (w v : ℕ → List ℕ → Bool) → ((p : ℕ) (path : List ℕ) → w p path ≡ true → v p path ≡ true)
    → ((p : ℕ) (path : List ℕ) → v p path ≡ true → w p path ≡ true) → (p : ℕ) → IsShortestOf w p → IsShortestOf v p
shortest_same w v there back p best =
    record { path = best.path; way = there p best.path best.way; shortest = λ q steps way. best.shortest q steps (back q steps way) }

module _ (rows : List (List Link)) (before : ℕ → ℕ → Bool) (d : ℕ) (cabling : is_cabling rows ≡ true) (order : IsOrder (length rows) before)
    (pick too : ℕ → ℕ → ℕ) (alike : (s ties : ℕ) → s < length rows → pick s ties ≡ too s ties) (one other : ℕ → Option ℕ)
    (first : AllChosen rows before pick one d) (second : AllChosen rows before too other d) where
  abbrev pub AgreeBelow : ℕ → Type 0
  AgreeBelow k = (u : ℕ) → u < length rows → u ≢ d → place_of before (length rows) u < k → one u ≡ other u

  pub down_same : (s port : ℕ) (steps : List ℕ) → s < length rows → s ≢ d
      → is_way_down rows before s d port steps ≡ true → one s ≡ other s
  down_same s port steps less away way =
      let a = chosen_down rows before pick one d cabling first s port steps less away way in
      let b = chosen_down rows before too other d cabling second s port steps less away way in
      let w = is_way_down rows before s d in
      a.1.0 ∙ (one_picked (pick s) (too s) w w (λ ties. alike s ties less) (λ p h. h) (λ p h. h) a.0 b.0 a.1.1 b.1.1 ∙ sym b.1.0)

  down_moves : (s : ℕ) (steps : List ℕ) → s < length rows → is_route rows one s steps d ≡ true
      → goes_down before s steps ≡ true → is_route rows other s steps d ≡ true
  down_moves s [] less route down = route
  down_moves s (t ∷ steps) less route down =
      let f = first_step rows one s t steps d route in
      let g = and_parts (is_down before s t) (goes_down before t steps) down in
      let there = (ends rows s t cabling less (leads_next rows s f.port t f.out)).0 in
      let way = and_from (leads rows s f.port t) _ f.out (and_from (is_walk rows t steps d) (goes_down before s (t ∷ steps)) (route_walks rows one t steps d f.rest) down) in
      let same = down_same s f.port (t ∷ steps) less f.away way in
      step_first rows other s t steps d (record { away = f.away; port = f.port; picked = sym same ∙ f.picked; out = f.out; rest = down_moves t steps there f.rest g.1 })

  pub route_moves : (k : ℕ) → AgreeBelow k → (s : ℕ) (steps : List ℕ) → s < length rows
      → place_of before (length rows) s < k → is_route rows one s steps d ≡ true
      → is_route rows other s steps d ≡ true
  route_moves k agree s [] less low route = route
  route_moves k agree s (t ∷ steps) less low route =
      by (one s) refl (first s less f.away) (λ near. route_moves k agree t steps there near f.rest)
    where
      f : FirstStep rows one s t steps d
      f = first_step rows one s t steps d route

      there : t < length rows
      there = (ends rows s t cabling less (leads_next rows s f.port t f.out)).0

      Later : Type 0
      Later = place_of before (length rows) t < k → is_route rows other t steps d ≡ true

      down : (p : ℕ) (path : List ℕ) → is_way_down rows before s d p path ≡ true
          → is_route rows other s (t ∷ steps) d ≡ true
      down p [] way = absurd (false≢true way)
      down p (u ∷ us) way =
          let w = way_down rows before s d p u us way in
          down_moves s (t ∷ steps) less route (down_first rows before pick one d cabling first s (t ∷ steps) (u ∷ us) less route
          (and_from (is_next_to rows s u) _ (leads_next rows s p u w.out) w.walk) (and_from (is_down before s u) _ w.step w.down)).0

      up : Later → (p : ℕ) → one s ≡ Some p → (path : List ℕ) → is_way_up rows before one s d p path ≡ true
          → is_route rows other s (t ∷ steps) d ≡ true
      up later p e [] way = absurd (false≢true way)
      up later p e (u ∷ us) way =
          let w = way_up rows before one s d p u us way in
          let port = same_port p f.port (sym e ∙ f.picked) in
          let same = one_end rows s f.port u t cabling less (subst (λ (q : ℕ). leads rows s q u ≡ true) port w.out) f.out in
          let near = place_less (length rows) before order t s there (subst (λ (v : ℕ). is_up before s v ≡ true) same w.step) in
          step_first rows other s t steps d (record { away = f.away; port = f.port; picked = sym (agree s less f.away low) ∙ f.picked; out = f.out; rest = later (omega (arith, near, low)) })

      by : (o : Option ℕ) → one s ≡ o → IsChosenOf (pick s) (is_way_down rows before s d) (is_way_up rows before one s d) o
          → Later → is_route rows other s (t ∷ steps) d ≡ true
      by None e h later = absurd (not_both f.port (sym e ∙ f.picked))
      by (Some p) e (inl h) later = let best = shortest_of (pick s) (is_way_down rows before s d) p h in down p best.path best.way
      by (Some p) e (inr h) later = let best = shortest_of (pick s) (is_way_up rows before one s d) p h.1 in up later p e best.path best.way

  pub way_moves : (k : ℕ) → AgreeBelow k → (s p : ℕ) (path : List ℕ) → s < length rows
      → place_of before (length rows) s ≤ k → is_way_up rows before one s d p path ≡ true
      → is_way_up rows before other s d p path ≡ true
  way_moves k agree s p [] less low way = way
  way_moves k agree s p (t ∷ steps) less low way =
      let w = way_up rows before one s d p t steps way in
      let there = (ends rows s t cabling less (leads_next rows s p t w.out)).0 in
      let near = place_less (length rows) before order t s there w.step in
      up_way rows before other s d p t steps (record { out = w.out; step = w.step; rest = route_moves k agree t steps there (omega (arith, near, low)) w.rest })

module _ (rows : List (List Link)) (before : ℕ → ℕ → Bool) (d : ℕ) (cabling : is_cabling rows ≡ true) (order : IsOrder (length rows) before)
    (pick too : ℕ → ℕ → ℕ) (alike : (s ties : ℕ) → s < length rows → pick s ties ≡ too s ties) (one other : ℕ → Option ℕ)
    (first : AllChosen rows before pick one d) (second : AllChosen rows before too other d) where
  abbrev Agree : ℕ → Type 0
  Agree k = (u : ℕ) → u < length rows → u ≢ d → place_of before (length rows) u < k → one u ≡ other u

  agree_next : (k : ℕ) → Agree k → Agree (suc k)
  agree_next k agree s less away low = by (one s) (other s) refl refl (first s less away) (second s less away)
    where
      fits : place_of before (length rows) s ≤ k
      fits = omega (arith, low)

      there : (p : ℕ) (path : List ℕ) → is_way_up rows before one s d p path ≡ true
          → is_way_up rows before other s d p path ≡ true
      there p path way = way_moves rows before d cabling order pick too alike one other first second k agree s p path less fits way

      back : (p : ℕ) (path : List ℕ) → is_way_up rows before other s d p path ≡ true
          → is_way_up rows before one s d p path ≡ true
      back p path way =
          way_moves rows before d cabling order too pick (λ s ties low. sym (alike s ties low)) other one second first k (λ u ul ua up. sym (agree u ul ua up)) s p path less fits way

      Of : (ℕ → ℕ) → (ℕ → Option ℕ) → Option ℕ → Type 0
      Of rule next o = IsChosenOf rule (is_way_down rows before s d) (is_way_up rows before next s d) o

      falls : (p : ℕ) (path : List ℕ) → is_way_down rows before s d p path ≡ true → one s ≡ other s
      falls p path way = down_same rows before d cabling order pick too alike one other first second s p path less away way

      by : (o r : Option ℕ) → one s ≡ o → other s ≡ r → Of (pick s) one o → Of (too s) other r → one s ≡ other s
      by None None e f h g = e ∙ sym f
      by None (Some q) e f h (inl g) = let best = shortest_of (too s) (is_way_down rows before s d) q g in falls q best.path best.way
      by None (Some q) e f h (inr g) =
          let best = shortest_of (too s) (is_way_up rows before other s d) q g.1 in
          absurd (neither (is_way_up rows before one s d q best.path) (h.1 q best.path) (back q best.path best.way))
      by (Some p) None e f (inl h) g = let best = shortest_of (pick s) (is_way_down rows before s d) p h in falls p best.path best.way
      by (Some p) None e f (inr h) g =
          let best = shortest_of (pick s) (is_way_up rows before one s d) p h.1 in
          absurd (neither (is_way_up rows before other s d p best.path) (g.1 p best.path) (there p best.path best.way))
      by (Some p) (Some q) e f (inl h) g = let best = shortest_of (pick s) (is_way_down rows before s d) p h in falls p best.path best.way
      by (Some p) (Some q) e f (inr h) (inl g) = let best = shortest_of (too s) (is_way_down rows before s d) q g in falls q best.path best.way
      by (Some p) (Some q) e f (inr h) (inr g) =
          let mine = is_way_up rows before one s d in
          let theirs = is_way_up rows before other s d in
          e ∙ (one_picked (pick s) (too s) mine theirs (λ ties. alike s ties less) (shortest_same mine theirs there back) (shortest_same theirs mine back there) p q h.1 g.1
          ∙ sym f)

  agree_all : (k : ℕ) → Agree k
  agree_all zero u less away low = absurd (let no_room : ⊥ = omega (arith, low) in no_room)
  agree_all (suc k) u less away low = agree_next k (agree_all k) u less away low

  pub one_choice : (s : ℕ) → s < length rows → s ≢ d → one s ≡ other s
  one_choice s less away = agree_all (suc (place_of before (length rows) s)) s less away (omega arith)
