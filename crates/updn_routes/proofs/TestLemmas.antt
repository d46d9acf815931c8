-- A test of a table, link by link, that computes: what it lets through obeys the definition of the choice.
use Rattle.std.proofs.Common.{◌≡◌, ◌≢◌, ℕ, suc, ◌<◌, ◌≤◌, Bool, true, false, not, ◌==◌, ◌&&◌, ◌||◌, nat_le, nat_lt, List, [], ◌∷◌, length, get_or, is_none}
use Rattle.std.proofs.Common.{Option, Some, None, refl, ap, subst, ◌∙◌, inl, inr, arith}
use Rattle.std.specs.List.{list_all, list_any, range_with_len}
use Rattle.std.proofs.lemmas.Bool.{and_parts, and_from, or_cases, or_left, or_right, eqb-true, leb-true, ltb-true, ne_eqb, eq-eqb, false≢true}
use Rattle.step_results.proofs.BoolLemmas.{implied}
use Rattle.sweep.proofs.RoundLemmas.{exactly}
use Rattle.sweep.specs.Rounds.{is_exactly}
use Rattle.updn_routes.specs.declared.link.Link.{Link}
use Rattle.updn_routes.specs.Cabling.{is_cabling, leads, links_of}
use Rattle.updn_routes.specs.Choice.{AllChosen, IsRule, least_port}
use Rattle.updn_routes.specs.UpDown.{is_down, is_up}
use Rattle.updn_routes.proofs.CablingLemmas.{goes, some_of}
use Rattle.sweep.proofs.JoinedLemmas.{at_each}
use Rattle.updn_routes.proofs.TableLemmas.{IsBest, IsEntry, NoneAt, all_chosen, least_chosen, picked_by}

-- ---- the test
-- the link leads no nearer than so many steps, and where it leads as near its port is no less
abbrev pub is_no_better : Option ℕ → ℕ → ℕ → ℕ → Bool
is_no_better None k port q = true
is_no_better (Some j) k port q = nat_lt k j || ((j == k) && nat_le port q)

abbrev pub is_best : List Link → (ℕ → Bool) → (ℕ → Option ℕ) → ℕ → ℕ → Bool
is_best row kind far port k =
    list_any (λ link. (link.port == port) && (kind link.to && is_exactly (far link.to) k)) row
    && list_all (λ link. not (kind link.to) || is_no_better (far link.to) k port link.port) row

abbrev pub is_none_at : List Link → (ℕ → Bool) → (ℕ → Option ℕ) → Bool
is_none_at row kind far = list_all (λ link. not (kind link.to) || is_none (far link.to)) row

abbrev pub is_entry : List (List Link) → (ℕ → ℕ → Bool) → (ℕ → Option ℕ) → (ℕ → Option ℕ) → ℕ → Option ℕ → Option ℕ
    → Option ℕ → Bool
is_entry rows before down own s (Some (suc k)) (Some m) (Some port) =
    (m == suc k) && is_best (links_of rows s) (is_down before s) down port k
is_entry rows before down own s None (Some (suc k)) (Some port) =
    is_none_at (links_of rows s) (is_down before s) down && is_best (links_of rows s) (is_up before s) own port k
is_entry rows before down own s None None None =
    is_none_at (links_of rows s) (is_down before s) down && is_none_at (links_of rows s) (is_up before s) own
is_entry rows before down own s _ _ _ = false

abbrev pub entry_of : List (Option ℕ) → ℕ → Option ℕ
entry_of table s = get_or table s None

abbrev pub is_table : List (List Link) → (ℕ → ℕ → Bool) → ℕ → List (Option ℕ) → List (Option ℕ) → List (Option ℕ)
    → Bool
is_table rows before d down own next =
    (is_exactly (entry_of down d) 0 && is_exactly (entry_of own d) 0)
    && list_all (λ s. (s == d) || is_entry rows before (entry_of down) (entry_of own) s (entry_of down s) (entry_of own s) (entry_of next s)) (range_with_len 0 (length rows))

-- ---- what it says
at_link : (test : ℕ → ℕ → Bool) (row : List Link) (q t : ℕ) → list_all (λ link. test link.port link.to) row ≡ true
    → list_any (goes q t) row ≡ true → test q t ≡ true
at_link test row q t all h =
    let link = some_of (goes q t) (λ link. test link.port link.to) row all h in
    let parts = and_parts (link.0.port == q) (link.0.to == t) link.1.0 in
    subst (λ (v : ℕ). test q v ≡ true) (eqb-true link.0.to t parts.1) (subst (λ (p : ℕ). test p link.0.to ≡ true) (eqb-true link.0.port q parts.0) link.1.1)

none_is : (o : Option ℕ) → is_none o ≡ true → o ≡ None
none_is None h = refl
none_is (Some j) h = absurd (false≢true h)

no_better : (o : Option ℕ) (k port q j : ℕ) → is_no_better o k port q ≡ true → o ≡ Some j
    → (k ≤ j) × (j ≡ k → port ≤ q)
no_better o k port q j h e = from (rw e at h)
  where
    from : (nat_lt k j || ((j == k) && nat_le port q)) ≡ true → (k ≤ j) × (j ≡ k → port ≤ q)
    from g =
        elim (or_cases (nat_lt k j) ((j == k) && nat_le port q) g) [
          | inl past ↦ (let far = ltb-true k j past in (omega (arith, far), λ same. absurd (let no_room : ⊥ = omega (arith, far, same) in no_room)))
          | inr even ↦ (let parts = and_parts (j == k) (nat_le port q) even in let same = eqb-true j k parts.0 in (omega (arith, same), λ _. leb-true port q parts.1))
        ]

record Out (row : List Link) (kind : ℕ → Bool) (far : ℕ → Option ℕ) (port k : ℕ) : Type 0 where
  to : ℕ
  there : list_any (goes port to) row ≡ true
  fits : kind to ≡ true
  at : far to ≡ Some k

out_of : (row : List Link) (kind : ℕ → Bool) (far : ℕ → Option ℕ) (port k : ℕ)
    → list_any (λ link. (link.port == port) && (kind link.to && is_exactly (far link.to) k)) row ≡ true
    → Out row kind far port k
out_of [] kind far port k h = absurd (false≢true h)
out_of (link ∷ row) kind far port k h =
    elim (or_cases ((link.port == port) && (kind link.to && is_exactly (far link.to) k)) _ h) [
      | inl here ↦
          let one = and_parts (link.port == port) _ here in
          let two = and_parts (kind link.to) (is_exactly (far link.to) k) one.1 in
          record { to = link.to; there = or_left (goes port link.to link) _ (and_from (link.port == port) (link.to == link.to) one.0 (eq-eqb link.to link.to refl)); fits = two.0; at = exactly (far link.to) k two.1 }
      | inr later ↦ let more = out_of row kind far port k later in
          record { to = more.to; there = or_right (goes port more.to link) _ more.there; fits = more.fits; at = more.at }
    ]

best_of : (rows : List (List Link)) (kind : ℕ → Bool) (far : ℕ → Option ℕ) (s port k : ℕ)
    → is_best (links_of rows s) kind far port k ≡ true → IsBest rows kind far s port k
best_of rows kind far s port k h =
    let parts = and_parts (list_any (λ link. (link.port == port) && (kind link.to && is_exactly (far link.to) k)) (links_of rows s)) _ h in
    let out = out_of (links_of rows s) kind far port k parts.0 in
    let worse : (q t : ℕ) → leads rows s q t ≡ true → kind t ≡ true → is_no_better (far t) k port q ≡ true =
    λ q t way fits. implied (kind t) _ (at_link (λ q t. not (kind t) || is_no_better (far t) k port q) (links_of rows s) q t parts.1 way) fits in
    record {
      to = out.to;
      out = out.there;
      fits = out.fits;
      at = out.at;
      nearest = λ q t j way fits e. (no_better (far t) k port q j (worse q t way fits) e).0;
      least = λ q t way fits e. (no_better (far t) k port q k (worse q t way fits) e).1 refl;
    }

none_at : (rows : List (List Link)) (kind : ℕ → Bool) (far : ℕ → Option ℕ) (s : ℕ)
    → is_none_at (links_of rows s) kind far ≡ true → NoneAt rows kind far s
none_at rows kind far s h q t way fits =
    none_is (far t) (implied (kind t) _ (at_link (λ q t. not (kind t) || is_none (far t)) (links_of rows s) q t h way) fits)

entry_is : (rows : List (List Link)) (before : ℕ → ℕ → Bool) (down own next : ℕ → Option ℕ) (s : ℕ) (o r p : Option ℕ)
    → down s ≡ o → own s ≡ r → next s ≡ p
    → is_entry rows before down own s o r p ≡ true → IsEntry rows before down own next s
entry_is rows before down own next s (Some (suc k)) (Some m) (Some port) e f g h =
    let parts = and_parts (m == suc k) _ h in
    inl (record { port = port; more = k; down_is = e; own_is = f ∙ ap Some (eqb-true m (suc k) parts.0); next_is = g; best = best_of rows (is_down before s) down s port k parts.1 })
entry_is rows before down own next s None (Some (suc k)) (Some port) e f g h =
    let parts = and_parts (is_none_at (links_of rows s) (is_down before s) down) _ h in
    inr (inl (record { port = port; more = k; down_is = e; none_down = none_at rows (is_down before s) down s parts.0; own_is = f; next_is = g; best = best_of rows (is_up before s) own s port k parts.1 }))
entry_is rows before down own next s None None None e f g h =
    let parts = and_parts (is_none_at (links_of rows s) (is_down before s) down) (is_none_at (links_of rows s) (is_up before s) own) h in
    inr (inr (record { down_is = e; none_down = none_at rows (is_down before s) down s parts.0; own_is = f; none_up = none_at rows (is_up before s) own s parts.1; next_is = g }))
entry_is rows before down own next s _ _ _ e f g h = absurd (false≢true h)

-- ---- by a rule
-- the port of each switch is the one that the rule names
abbrev pub is_port : Option ℕ → Option ℕ → Bool
is_port None None = true
is_port (Some p) (Some q) = p == q
is_port _ _ = false

one_port : (o r : Option ℕ) → is_port o r ≡ true → o ≡ r
one_port None None h = refl
one_port (Some p) (Some q) h = ap Some (eqb-true p q h)
one_port None (Some q) h = absurd (false≢true h)
one_port (Some p) None h = absurd (false≢true h)

abbrev pub is_picked : List (List Link) → (ℕ → ℕ → Bool) → (ℕ → ℕ → ℕ) → ℕ → (down own now : List (Option ℕ)) → ℕ → Bool
is_picked rows before pick d down own now s =
    (s == d) || is_port (entry_of now s) (picked_by rows before pick (entry_of down) (entry_of own) s (entry_of down s) (entry_of own s))

module _ (rows : List (List Link)) (before : ℕ → ℕ → Bool) (d : ℕ) (down own next : List (Option ℕ)) (cabling : is_cabling rows ≡ true)
    (tested : is_table rows before d down own next ≡ true) where
  two_nots : (b c : Bool) → (b || c) ≡ true → (not (not b) || c) ≡ true
  two_nots true c h = refl
  two_nots false c h = h

  not_is : (b : Bool) → b ≡ false → not b ≡ true
  not_is b e = rw e refl

  away_from : (test : ℕ → Bool) (s : ℕ) → list_all (λ s. (s == d) || test s) (range_with_len 0 (length rows)) ≡ true → s < length rows → s ≢ d
      → test s ≡ true
  away_from test s all less away =
      implied (not (s == d)) _ (two_nots (s == d) _ (at_each (λ s. (s == d) || test s) 0 (length rows) s all (omega arith) (omega (arith, less))))
      (not_is (s == d) (ne_eqb s d away))

  abbrev test : ℕ → Bool
  test s =
      (s == d) || is_entry rows before (entry_of down) (entry_of own) s (entry_of down s) (entry_of own s) (entry_of next s)

  parts : ((is_exactly (entry_of down d) 0 && is_exactly (entry_of own d) 0) ≡ true) × (list_all test (range_with_len 0 (length rows)) ≡ true)
  parts =
      and_parts (is_exactly (entry_of down d) 0 && is_exactly (entry_of own d) 0) (list_all test (range_with_len 0 (length rows))) tested

  home : (is_exactly (entry_of down d) 0 ≡ true) × (is_exactly (entry_of own d) 0 ≡ true)
  home = and_parts (is_exactly (entry_of down d) 0) (is_exactly (entry_of own d) 0) parts.0

  entries : (s : ℕ) → s < length rows → s ≢ d → IsEntry rows before (entry_of down) (entry_of own) (entry_of next) s
  entries s less away =
      entry_is rows before (entry_of down) (entry_of own) (entry_of next) s (entry_of down s) (entry_of own s) (entry_of next s) refl refl refl
      (away_from (λ s. is_entry rows before (entry_of down) (entry_of own) s (entry_of down s) (entry_of own s) (entry_of next s)) s parts.1 less away)

  pub table_tested : AllChosen rows before least_port (entry_of next) d
  table_tested =
      least_chosen rows before d cabling (entry_of down) (entry_of own) (entry_of next) (exactly (entry_of down d) 0 home.0) (exactly (entry_of own d) 0 home.1)
      entries

  pub rule_tested : (pick : ℕ → ℕ → ℕ) (now : List (Option ℕ)) → IsRule pick
      → list_all (is_picked rows before pick d down own now) (range_with_len 0 (length rows)) ≡ true → AllChosen rows before pick (entry_of now) d
  rule_tested pick now rule all =
      all_chosen rows before d cabling (entry_of down) (entry_of own) (entry_of next) (exactly (entry_of down d) 0 home.0) (exactly (entry_of own d) 0 home.1)
      entries pick (entry_of now) rule
      (λ s less away. one_port (entry_of now s) _
      (away_from (λ s. is_port (entry_of now s) (picked_by rows before pick (entry_of down) (entry_of own) s (entry_of down s) (entry_of own s))) s all less away))
