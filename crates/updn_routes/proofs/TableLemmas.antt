-- A table of distances and ports towards one switch that is right link by link obeys the definition of the choice.
use Rattle.std.proofs.Common.{◌≡◌, ◌≢◌, ℕ, zero, suc, ◌<◌, ◌≤◌, ◌⊎◌, Bool, true, false, ◌==◌, List, [], ◌∷◌, length, slice_get, Option, Some, None, refl, sym, ap, subst, ◌∙◌, inl, inr, arith}
use Rattle.std.proofs.lemmas.Bool.{and_parts, and_from, eq-eqb, eqb-true, eqb-false, false≢true}
use Rattle.updn_routes.specs.declared.link.Link.{Link}
use Rattle.updn_routes.specs.Cabling.{is_cabling, is_next_to, is_walk, leads, links_of, rises}
use Rattle.updn_routes.specs.Choice.{AllChosen, IsChosenOf, IsPickedOf, IsRule, IsShortestOf, is_route, is_way_down, is_way_up, least_port}
use Rattle.updn_routes.specs.UpDown.{goes_down, is_down, is_up}
use Rattle.sweep.proofs.FoundLemmas.{any_by}
use Rattle.updn_routes.proofs.CablingLemmas.{ends, leads_next, next_leads, one_end, row_rises}
use Rattle.updn_routes.proofs.RouteLemmas.{FirstStep, first_step, not_both, same_port, step_first, up_way, way_down, way_up}
use Rattle.updn_routes.proofs.TieLemmas.{LeadsTo, first_is, is_in, leads_tie, not_empty, some_at, tie_leads, ties_in, ties_rise}

-- ---- one entry
-- the least port, among those of a kind, to a switch that stands so many steps from the target, where none stands nearer
pub record IsBest (rows : List (List Link)) (kind : ℕ → Bool) (far : ℕ → Option ℕ) (s port k : ℕ) : Type 0 where
  pub to : ℕ
  pub out : leads rows s port to ≡ true
  pub fits : kind to ≡ true
  pub at : far to ≡ Some k
  pub nearest : (q t j : ℕ) → leads rows s q t ≡ true → kind t ≡ true → far t ≡ Some j → k ≤ j
  pub least : (q t : ℕ) → leads rows s q t ≡ true → kind t ≡ true → far t ≡ Some k → port ≤ q

-- a port that is named among all those to a switch of that kind that stands so many steps from the target, where none stands nearer
pub record IsTaken (rows : List (List Link)) (pick : ℕ → ℕ → ℕ) (kind : ℕ → Bool) (far : ℕ → Option ℕ) (s port k : ℕ) : Type 0 where
  pub to : ℕ
  pub out : leads rows s port to ≡ true
  pub fits : kind to ≡ true
  pub at : far to ≡ Some k
  pub nearest : (q t j : ℕ) → leads rows s q t ≡ true → kind t ≡ true → far t ≡ Some j → k ≤ j
  pub ties : List ℕ
  pub rising : rises ties ≡ true
  pub each : (q : ℕ) → is_in ties q ≡ true → LeadsTo kind far k (links_of rows s) q
  pub all : (q t : ℕ) → leads rows s q t ≡ true → kind t ≡ true → far t ≡ Some k → is_in ties q ≡ true
  pub picked : slice_get ties (pick s (length ties)) ≡ Some port

-- none of that kind leads there
abbrev pub NoneAt : List (List Link) → (ℕ → Bool) → (ℕ → Option ℕ) → ℕ → Type 0
NoneAt rows kind far s = (q t : ℕ) → leads rows s q t ≡ true → kind t ≡ true → far t ≡ None

-- `down` has the length of a shortest way down, `own` that of the switch's own route, and `next` its port, which is best in some sense
abbrev pub Best : Type 1
Best = (ℕ → Bool) → (ℕ → Option ℕ) → (s port k : ℕ) → Type 0

pub record Falls (IsIt : Best) (before : ℕ → ℕ → Bool) (down own next : ℕ → Option ℕ) (s : ℕ) : Type 0 where
  pub port : ℕ
  pub more : ℕ
  pub down_is : down s ≡ Some (suc more)
  pub own_is : own s ≡ Some (suc more)
  pub next_is : next s ≡ Some port
  pub best : IsIt (is_down before s) down s port more

pub record Climbs (rows : List (List Link)) (IsIt : Best) (before : ℕ → ℕ → Bool) (down own next : ℕ → Option ℕ) (s : ℕ) : Type 0 where
  pub port : ℕ
  pub more : ℕ
  pub down_is : down s ≡ None
  pub none_down : NoneAt rows (is_down before s) down s
  pub own_is : own s ≡ Some (suc more)
  pub next_is : next s ≡ Some port
  pub best : IsIt (is_up before s) own s port more

pub record Rests (rows : List (List Link)) (before : ℕ → ℕ → Bool) (down own next : ℕ → Option ℕ) (s : ℕ) : Type 0 where
  pub down_is : down s ≡ None
  pub none_down : NoneAt rows (is_down before s) down s
  pub own_is : own s ≡ None
  pub none_up : NoneAt rows (is_up before s) own s
  pub next_is : next s ≡ None

abbrev pub IsEntryBy : List (List Link) → Best → (ℕ → ℕ → Bool) → (ℕ → Option ℕ) → (ℕ → Option ℕ) → (ℕ → Option ℕ) → ℕ → Type 0
IsEntryBy rows IsIt before down own next s =
    Falls IsIt before down own next s ⊎ (Climbs rows IsIt before down own next s ⊎ Rests rows before down own next s)

abbrev pub IsEntry : List (List Link) → (ℕ → ℕ → Bool) → (ℕ → Option ℕ) → (ℕ → Option ℕ) → (ℕ → Option ℕ) → ℕ → Type 0
IsEntry rows before down own next s = IsEntryBy rows (IsBest rows) before down own next s

-- ---- all of them
pub same_some : (j k : ℕ) → ◌≡◌ {A = Option ℕ} (Some j) (Some k) → j ≡ k
same_some j k h = cc

module _ (rows : List (List Link)) (before : ℕ → ℕ → Bool) (pick : ℕ → ℕ → ℕ) (d : ℕ) (cabling : is_cabling rows ≡ true) (down own next : ℕ → Option ℕ)
    (down_home : down d ≡ Some 0) (own_home : own d ≡ Some 0)
    (each : (s : ℕ) → s < length rows → s ≢ d → IsEntryBy rows (IsTaken rows pick) before down own next s) where
  abbrev Entry : ℕ → Type 0
  Entry s = IsEntryBy rows (IsTaken rows pick) before down own next s

  at_home : (s : ℕ) → s ≡ d → down s ≡ Some 0
  at_home s same = subst (λ (k : ℕ). down k ≡ Some 0) (sym same) down_home

  own_at_home : (s : ℕ) → s ≡ d → own s ≡ Some 0
  own_at_home s same = subst (λ (k : ℕ). own k ≡ Some 0) (sym same) own_home

  -- where some way leads down there is a distance, and it is no greater
  abbrev Within : ℕ → ℕ → Type 0
  Within s most = (k : ℕ) × (down s ≡ Some k) × (k ≤ most)

  walk_down : (s : ℕ) (steps : List ℕ) → s < length rows → is_walk rows s steps d ≡ true
      → goes_down before s steps ≡ true → Within s (length steps)
  walk_down s [] less walk falls = (0, at_home s (eqb-true s d walk), omega arith)
  walk_down s (t ∷ steps) less walk falls = by (s == d) refl (walk_down t steps there w.1 g.1)
    where
      w : (is_next_to rows s t ≡ true) × (is_walk rows t steps d ≡ true)
      w = and_parts (is_next_to rows s t) (is_walk rows t steps d) walk

      g : (is_down before s t ≡ true) × (goes_down before t steps ≡ true)
      g = and_parts (is_down before s t) (goes_down before t steps) falls

      there : t < length rows
      there = (ends rows s t cabling less w.0).0

      port : (q : ℕ) × (leads rows s q t ≡ true)
      port = next_leads rows s t w.0

      on : Within t (length steps) → Entry s → Within s (length (t ∷ steps))
      on more (inl f) =
          let near = f.best.nearest port.0 t more.0 port.1 g.0 more.1 in
          let most = more.2 in
          (suc f.more, f.down_is, omega (arith, near, most))
      on more (inr (inl f)) = absurd (not_both more.0 (sym (f.none_down port.0 t port.1 g.0) ∙ more.1))
      on more (inr (inr f)) = absurd (not_both more.0 (sym (f.none_down port.0 t port.1 g.0) ∙ more.1))

      by : (b : Bool) → (s == d) ≡ b → Within t (length steps) → Within s (length (t ∷ steps))
      by true e more = (0, at_home s (eqb-true s d e), omega arith)
      by false e more = on more (each s less (eqb-false s d e))

  -- and where there is a distance some way of that length leads down
  abbrev DownWalk : ℕ → ℕ → Type 0
  DownWalk s k =
      (steps : List ℕ) × (is_walk rows s steps d ≡ true) × (goes_down before s steps ≡ true) × (length steps ≡ k)

  down_walk : (k s : ℕ) → s < length rows → down s ≡ Some k → DownWalk s k
  down_walk zero s less e = by (s == d) refl
    where
      on : s ≢ d → Entry s → DownWalk s zero
      on away (inl f) =
          absurd (let same =
          same_some (suc f.more) zero (sym f.down_is ∙ e) in let no_room : ⊥ = omega (arith, same) in no_room)
      on away (inr (inl f)) = absurd (not_both zero (sym f.down_is ∙ e))
      on away (inr (inr f)) = absurd (not_both zero (sym f.down_is ∙ e))

      by : (b : Bool) → (s == d) ≡ b → DownWalk s zero
      by true f = ([], f, refl, refl)
      by false f = let away = eqb-false s d f in on away (each s less away)
  down_walk (suc k) s less e = by (s == d) refl (λ t there f. down_walk k t there f)
    where
      Later : Type 0
      Later = (t : ℕ) → t < length rows → down t ≡ Some k → DownWalk t k

      on : Later → Entry s → DownWalk s (suc k)
      on later (inl f) =
          let same = same_some (suc f.more) (suc k) (sym f.down_is ∙ e) in
          let beside = leads_next rows s f.port f.best.to f.best.out in
          let even : f.more ≡ k = omega (arith, same) in
          let more : DownWalk f.best.to k = later f.best.to (ends rows s f.best.to cabling less beside).0 (f.best.at ∙ ap Some even) in
          (f.best.to ∷ more.0, and_from (is_next_to rows s f.best.to) _ beside more.1, and_from (is_down before s f.best.to) _ f.best.fits more.2, ap suc more.3)
      on later (inr (inl f)) = absurd (not_both (suc k) (sym f.down_is ∙ e))
      on later (inr (inr f)) = absurd (not_both (suc k) (sym f.down_is ∙ e))

      by : (b : Bool) → (s == d) ≡ b → Later → DownWalk s (suc k)
      by true f later =
          absurd (let same =
          same_some (suc k) zero (sym e ∙ at_home s (eqb-true s d f)) in let no_room : ⊥ =
          omega (arith, same) in no_room)
      by false f later = on later (each s less (eqb-false s d f))

  -- the own route is the way down where there is one
  down_own : (s k : ℕ) → s < length rows → down s ≡ Some k → own s ≡ Some k
  down_own s k less e = by (s == d) refl
    where
      on : Entry s → own s ≡ Some k
      on (inl f) = f.own_is ∙ (sym f.down_is ∙ e)
      on (inr (inl f)) = absurd (not_both k (sym f.down_is ∙ e))
      on (inr (inr f)) = absurd (not_both k (sym f.down_is ∙ e))

      by : (b : Bool) → (s == d) ≡ b → own s ≡ Some k
      by true f = let same = eqb-true s d f in own_at_home s same ∙ (sym (at_home s same) ∙ e)
      by false f = on (each s less (eqb-false s d f))

  -- the switch that the port leads to, one step nearer on the own route
  record Ahead (s k : ℕ) : Type 0 where
    to : ℕ
    port : ℕ
    picked : next s ≡ Some port
    out : leads rows s port to ≡ true
    there : to < length rows
    nearer : own to ≡ Some k

  ahead : (s k : ℕ) → s < length rows → s ≢ d → own s ≡ Some (suc k) → Ahead s k
  ahead s k less away e = on (each s less away)
    where
      on : Entry s → Ahead s k
      on (inl f) =
          let same = same_some (suc f.more) (suc k) (sym f.own_is ∙ e) in
          let even : f.more ≡ k = omega (arith, same) in
          let there = (ends rows s f.best.to cabling less (leads_next rows s f.port f.best.to f.best.out)).0 in
          record { to = f.best.to; port = f.port; picked = f.next_is; out = f.best.out; there = there; nearer = down_own f.best.to f.more there f.best.at ∙ ap Some even }
      on (inr (inl f)) =
          let same = same_some (suc f.more) (suc k) (sym f.own_is ∙ e) in
          let even : f.more ≡ k = omega (arith, same) in
          let there = (ends rows s f.best.to cabling less (leads_next rows s f.port f.best.to f.best.out)).0 in
          record { to = f.best.to; port = f.port; picked = f.next_is; out = f.best.out; there = there; nearer = f.best.at ∙ ap Some even }
      on (inr (inr f)) = absurd (not_both (suc k) (sym f.own_is ∙ e))

  abbrev Routed : ℕ → ℕ → Type 0
  Routed s k = (steps : List ℕ) × (is_route rows next s steps d ≡ true) × (length steps ≡ k)

  own_route : (k s : ℕ) → s < length rows → own s ≡ Some k → Routed s k
  own_route zero s less e = by (s == d) refl
    where
      on : Entry s → Routed s zero
      on (inl f) =
          absurd (let same =
          same_some (suc f.more) zero (sym f.own_is ∙ e) in let no_room : ⊥ = omega (arith, same) in no_room)
      on (inr (inl f)) =
          absurd (let same =
          same_some (suc f.more) zero (sym f.own_is ∙ e) in let no_room : ⊥ = omega (arith, same) in no_room)
      on (inr (inr f)) = absurd (not_both zero (sym f.own_is ∙ e))

      by : (b : Bool) → (s == d) ≡ b → Routed s zero
      by true f = ([], f, refl)
      by false f = on (each s less (eqb-false s d f))
  own_route (suc k) s less e = by (s == d) refl (λ t there f. own_route k t there f)
    where
      Later : Type 0
      Later = (t : ℕ) → t < length rows → own t ≡ Some k → Routed t k

      by : (b : Bool) → (s == d) ≡ b → Later → Routed s (suc k)
      by true f later =
          absurd (let same =
          same_some (suc k) zero (sym e ∙ own_at_home s (eqb-true s d f)) in let no_room : ⊥ =
          omega (arith, same) in no_room)
      by false f later =
          let away = eqb-false s d f in
          let a = ahead s k less away e in
          let more : Routed a.to k = later a.to a.there a.nearer in
          (a.to ∷ more.0, step_first rows next s a.to more.0 d (record { away = away; port = a.port; picked = a.picked; out = a.out; rest = more.1 }), ap suc more.2)

  -- and a route is as long as reported
  route_own : (s : ℕ) (steps : List ℕ) → s < length rows → is_route rows next s steps d ≡ true
      → own s ≡ Some (length steps)
  route_own s [] less route = own_at_home s (eqb-true s d route)
  route_own s (t ∷ steps) less route = on (each s less f.away) (route_own t steps there f.rest)
    where
      f : FirstStep rows next s t steps d
      f = first_step rows next s t steps d route

      there : t < length rows
      there = (ends rows s t cabling less (leads_next rows s f.port t f.out)).0

      same_end : (port to : ℕ) → next s ≡ Some port → leads rows s port to ≡ true → to ≡ t
      same_end port to picked out =
          one_end rows s f.port to t cabling less (subst (λ (q : ℕ). leads rows s q to ≡ true) (same_port port f.port (sym picked ∙ f.picked)) out) f.out

      so_long : (to more : ℕ) → to ≡ t → own to ≡ Some more → own t ≡ Some (length steps) → own s ≡ Some (suc more)
          → own s ≡ Some (length (t ∷ steps))
      so_long to more same nearer e own_is =
          own_is ∙ ap (λ k. Some (suc k)) (same_some more (length steps) (sym nearer ∙ (ap own same ∙ e)))

      on : Entry s → own t ≡ Some (length steps) → own s ≡ Some (length (t ∷ steps))
      on (inl g) e =
          let same = same_end g.port g.best.to g.next_is g.best.out in
          so_long g.best.to g.more same (down_own g.best.to g.more (ends rows s g.best.to cabling less (leads_next rows s g.port g.best.to g.best.out)).0 g.best.at) e g.own_is
      on (inr (inl g)) e =
          so_long g.best.to g.more (same_end g.port g.best.to g.next_is g.best.out) g.best.at e g.own_is
      on (inr (inr g)) e = absurd (not_both f.port (sym g.next_is ∙ f.picked))

  pub table_chosen : AllChosen rows before pick next d
  table_chosen s less away = on (each s less away)
    where
      downs : ℕ → List ℕ → Bool
      downs = is_way_down rows before s d

      ups : ℕ → List ℕ → Bool
      ups = is_way_up rows before next s d

      reached : (q t : ℕ) → leads rows s q t ≡ true → t < length rows
      reached q t out = (ends rows s t cabling less (leads_next rows s q t out)).0

      no_downs : NoneAt rows (is_down before s) down s → (p : ℕ) (path : List ℕ) (b : Bool) → downs p path ≡ b
          → downs p path ≡ false
      no_downs none p path false e = e
      no_downs none p [] true e = refl
      no_downs none p (t ∷ steps) true e =
          let w = way_down rows before s d p t steps e in
          let far = walk_down t steps (reached p t w.out) w.walk w.down in
          absurd (not_both far.0 (sym (none p t w.out w.step) ∙ far.1))

      no_ups : NoneAt rows (is_up before s) own s → (p : ℕ) (path : List ℕ) (b : Bool) → ups p path ≡ b
          → ups p path ≡ false
      no_ups none p path false e = e
      no_ups none p [] true e = refl
      no_ups none p (t ∷ steps) true e =
          let w = way_up rows before next s d p t steps e in
          absurd (not_both (length steps) (sym (none p t w.out w.step) ∙ route_own t steps (reached p t w.out) w.rest))

      best_down : (port more : ℕ) → IsTaken rows pick (is_down before s) down s port more → IsPickedOf (pick s) downs port
      best_down port more best =
          record { ties = best.ties; are = record { rising = best.rising; each = begins; all = begun }; picked = best.picked }
        where
          shorter : (to : ℕ) (walk : List ℕ) → length walk ≡ more → (q : ℕ) (steps : List ℕ) → downs q steps ≡ true
              → length (to ∷ walk) ≤ length steps
          shorter to walk long q [] way = absurd (false≢true way)
          shorter to walk long q (t ∷ steps) way =
              let w = way_down rows before s d q t steps way in
              let far = walk_down t steps (reached q t w.out) w.walk w.down in
              let near = best.nearest q t far.0 w.out w.step far.1 in
              let most = far.2 in
              omega (arith, near, most, long)

          way_by : (q to : ℕ) (walk : List ℕ) → leads rows s q to ≡ true → is_down before s to ≡ true → is_walk rows to walk d ≡ true
              → goes_down before to walk ≡ true → downs q (to ∷ walk) ≡ true
          way_by q to walk out fits goes falls =
              and_from (leads rows s q to) _ out (and_from (is_walk rows to walk d) _ goes (and_from (is_down before s to) _ fits falls))

          begins : (q : ℕ) → is_in best.ties q ≡ true → IsShortestOf downs q
          begins q has =
              let tie = best.each q has in
              let walk : DownWalk tie.to more = down_walk more tie.to (reached q tie.to tie.out) tie.at in
              record { path = tie.to ∷ walk.0; way = way_by q tie.to walk.0 tie.out tie.fits walk.1 walk.2; shortest = shorter tie.to walk.0 walk.3 }

          begun : (q : ℕ) → IsShortestOf downs q → is_in best.ties q ≡ true
          begun q own_way = from own_way.path own_way.way own_way.shortest (down_walk more best.to (reached port best.to best.out) best.at)
            where
              from : (path : List ℕ) → downs q path ≡ true → ((other : ℕ) (steps : List ℕ) → downs other steps ≡ true → length path ≤ length steps)
                  → DownWalk best.to more → is_in best.ties q ≡ true
              from [] way shortest walk = absurd (false≢true way)
              from (t ∷ steps) way shortest walk =
                  let w = way_down rows before s d q t steps way in
                  let far = walk_down t steps (reached q t w.out) w.walk w.down in
                  let near = best.nearest q t far.0 w.out w.step far.1 in
                  let most = far.2 in
                  let low = shortest port (best.to ∷ walk.0) (way_by port best.to walk.0 best.out best.fits walk.1 walk.2) in
                  let long = walk.3 in
                  let same : far.0 ≡ more = omega (arith, near, most, low, long) in
                  best.all q t w.out w.step (far.1 ∙ ap Some same)

      best_up : (port more : ℕ) → IsTaken rows pick (is_up before s) own s port more → IsPickedOf (pick s) ups port
      best_up port more best =
          record { ties = best.ties; are = record { rising = best.rising; each = begins; all = begun }; picked = best.picked }
        where
          shorter : (to : ℕ) (route : List ℕ) → length route ≡ more → (q : ℕ) (steps : List ℕ) → ups q steps ≡ true
              → length (to ∷ route) ≤ length steps
          shorter to route long q [] way = absurd (false≢true way)
          shorter to route long q (t ∷ steps) way =
              let w = way_up rows before next s d q t steps way in
              let near = best.nearest q t (length steps) w.out w.step (route_own t steps (reached q t w.out) w.rest) in
              omega (arith, near, long)

          begins : (q : ℕ) → is_in best.ties q ≡ true → IsShortestOf ups q
          begins q has =
              let tie = best.each q has in
              let route : Routed tie.to more = own_route more tie.to (reached q tie.to tie.out) tie.at in
              record {
                path = tie.to ∷ route.0;
                way = up_way rows before next s d q tie.to route.0 (record { out = tie.out; step = tie.fits; rest = route.1 });
                shortest = shorter tie.to route.0 route.2;
              }

          begun : (q : ℕ) → IsShortestOf ups q → is_in best.ties q ≡ true
          begun q own_way = from own_way.path own_way.way own_way.shortest (own_route more best.to (reached port best.to best.out) best.at)
            where
              from : (path : List ℕ) → ups q path ≡ true → ((other : ℕ) (steps : List ℕ) → ups other steps ≡ true → length path ≤ length steps)
                  → Routed best.to more → is_in best.ties q ≡ true
              from [] way shortest route = absurd (false≢true way)
              from (t ∷ steps) way shortest route =
                  let w = way_up rows before next s d q t steps way in
                  let own_is = route_own t steps (reached q t w.out) w.rest in
                  let near = best.nearest q t (length steps) w.out w.step own_is in
                  let low = shortest port (best.to ∷ route.0) (up_way rows before next s d port best.to route.0 (record { out = best.out; step = best.fits; rest = route.1 })) in
                  let long = route.2 in
                  let same : length steps ≡ more = omega (arith, near, low, long) in
                  best.all q t w.out w.step (own_is ∙ ap Some same)

      on : Entry s → IsChosenOf (pick s) downs ups (next s)
      on (inl f) =
          subst (λ (o : Option ℕ). IsChosenOf (pick s) downs ups o) (sym f.next_is) (inl (best_down f.port f.more f.best))
      on (inr (inl f)) =
          subst (λ (o : Option ℕ). IsChosenOf (pick s) downs ups o) (sym f.next_is) (inr (λ p path. no_downs f.none_down p path (downs p path) refl, best_up f.port f.more f.best))
      on (inr (inr f)) =
          subst (λ (o : Option ℕ). IsChosenOf (pick s) downs ups o) (sym f.next_is)
          (λ p path. no_downs f.none_down p path (downs p path) refl, λ p path. no_ups f.none_up p path (ups p path) refl)

-- ---- by the rule
-- the port that a rule names among those of a kind to switches of one distance
abbrev pub picked_in : List (List Link) → (ℕ → ℕ → ℕ) → (ℕ → Bool) → (ℕ → Option ℕ) → (s k : ℕ) → Option ℕ
picked_in rows pick kind far s k = slice_get (ties_in kind far k (links_of rows s)) (pick s (length (ties_in kind far k (links_of rows s))))

-- and among those that a switch has, by the lengths of its way down and of its route
unfoldable pub picked_by : List (List Link) → (ℕ → ℕ → Bool) → (ℕ → ℕ → ℕ) → (down own : ℕ → Option ℕ) → ℕ → Option ℕ → Option ℕ → Option ℕ
picked_by rows before pick down own s (Some (suc k)) route = picked_in rows pick (is_down before s) down s k
picked_by rows before pick down own s (Some zero) route = None
picked_by rows before pick down own s None (Some (suc k)) = picked_in rows pick (is_up before s) own s k
picked_by rows before pick down own s None (Some zero) = None
picked_by rows before pick down own s None None = None

module _ (rows : List (List Link)) (cabling : is_cabling rows ≡ true) (s : ℕ) (less : s < length rows) (kind : ℕ → Bool) (far : ℕ → Option ℕ) where
  taken_by : (pick : ℕ → ℕ → ℕ) (least port k : ℕ) → IsBest rows kind far s least k → picked_in rows pick kind far s k ≡ Some port
      → IsTaken rows pick kind far s port k
  taken_by pick least port k best is =
      let ties = ties_in kind far k (links_of rows s) in
      let tie : LeadsTo kind far k (links_of rows s) port =
      tie_leads kind far k (links_of rows s) port (any_by (λ tie. tie == port) ties (pick s (length ties)) port is (eq-eqb port port refl)) in
      record {
        to = tie.to;
        out = tie.out;
        fits = tie.fits;
        at = tie.at;
        nearest = best.nearest;
        ties = ties;
        rising = ties_rise kind far k (links_of rows s) (row_rises rows s cabling less);
        each = tie_leads kind far k (links_of rows s);
        all = leads_tie kind far k (links_of rows s);
        picked = is;
      }

  some_taken : (pick : ℕ → ℕ → ℕ) (least k : ℕ) → IsRule pick → IsBest rows kind far s least k
      → (port : ℕ) × (picked_in rows pick kind far s k ≡ Some port)
  some_taken pick least k rule best =
      let ties = ties_in kind far k (links_of rows s) in
      some_at ties (pick s (length ties)) (rule s (length ties) (not_empty ties least (leads_tie kind far k (links_of rows s) least best.to best.out best.fits best.at)))

  -- the first of them is the least
  least_taken : (least k : ℕ) → IsBest rows kind far s least k → picked_in rows least_port kind far s k ≡ Some least
  least_taken least k best =
      first_is (ties_in kind far k (links_of rows s)) least (ties_rise kind far k (links_of rows s) (row_rises rows s cabling less))
      (leads_tie kind far k (links_of rows s) least best.to best.out best.fits best.at)
      (λ q has. let tie = tie_leads kind far k (links_of rows s) q has in best.least q tie.to tie.out tie.fits tie.at)

module _ (rows : List (List Link)) (before : ℕ → ℕ → Bool) (d : ℕ) (cabling : is_cabling rows ≡ true) (down own next : ℕ → Option ℕ)
    (down_home : down d ≡ Some 0) (own_home : own d ≡ Some 0) (each : (s : ℕ) → s < length rows → s ≢ d → IsEntry rows before down own next s) where
  abbrev pub IsPicked : (ℕ → ℕ → ℕ) → (ℕ → Option ℕ) → ℕ → Type 0
  IsPicked pick now s = now s ≡ picked_by rows before pick down own s (down s) (own s)

  -- what a rule names, in place of the least
  pub all_chosen : (pick : ℕ → ℕ → ℕ) (now : ℕ → Option ℕ) → IsRule pick → ((s : ℕ) → s < length rows → s ≢ d → IsPicked pick now s)
      → AllChosen rows before pick now d
  unfolding picked_by
  all_chosen pick now rule are =
      table_chosen rows before pick d cabling down own now down_home own_home (λ s less away. by s less (each s less away) (are s less away))
    where
      by : (s : ℕ) → s < length rows → IsEntry rows before down own next s → IsPicked pick now s
          → IsEntryBy rows (IsTaken rows pick) before down own now s
      by s less (inl f) is =
          let some = some_taken rows cabling s less (is_down before s) down pick f.port f.more rule f.best in
          inl (record {
            port = some.0;
            more = f.more;
            down_is = f.down_is;
            own_is = f.own_is;
            next_is = is ∙ (ap (λ (o : Option ℕ). picked_by rows before pick down own s o (own s)) f.down_is ∙ some.1);
            best = taken_by rows cabling s less (is_down before s) down pick f.port some.0 f.more f.best some.1;
          })
      by s less (inr (inl f)) is =
          let some = some_taken rows cabling s less (is_up before s) own pick f.port f.more rule f.best in
          inr (inl (record {
            port = some.0;
            more = f.more;
            down_is = f.down_is;
            none_down = f.none_down;
            own_is = f.own_is;
            next_is =
                is ∙ (ap (λ (o : Option ℕ). picked_by rows before pick down own s o (own s)) f.down_is
                ∙ (ap (picked_by rows before pick down own s None) f.own_is ∙ some.1));
            best = taken_by rows cabling s less (is_up before s) own pick f.port some.0 f.more f.best some.1;
          }))
      by s less (inr (inr f)) is =
          inr (inr (record {
            down_is = f.down_is;
            none_down = f.none_down;
            own_is = f.own_is;
            none_up = f.none_up;
            next_is =
                is ∙ (ap (λ (o : Option ℕ). picked_by rows before pick down own s o (own s)) f.down_is
                ∙ ap (picked_by rows before pick down own s None) f.own_is);
          }))

  -- the least is what the rule of the least port names
  pub least_chosen : AllChosen rows before least_port next d
  unfolding picked_by
  least_chosen =
      all_chosen least_port next (λ s ties some. some) (λ s less away. by s less (each s less away))
    where
      by : (s : ℕ) → s < length rows → IsEntry rows before down own next s → IsPicked least_port next s
      by s less (inl f) =
          f.next_is ∙ sym (ap (λ (o : Option ℕ). picked_by rows before least_port down own s o (own s)) f.down_is
          ∙ least_taken rows cabling s less (is_down before s) down f.port f.more f.best)
      by s less (inr (inl f)) =
          f.next_is ∙ sym (ap (λ (o : Option ℕ). picked_by rows before least_port down own s o (own s)) f.down_is
          ∙ (ap (picked_by rows before least_port down own s None) f.own_is
          ∙ least_taken rows cabling s less (is_up before s) own f.port f.more f.best))
      by s less (inr (inr f)) =
          f.next_is ∙ sym (ap (λ (o : Option ℕ). picked_by rows before least_port down own s o (own s)) f.down_is
          ∙ ap (picked_by rows before least_port down own s None) f.own_is)
