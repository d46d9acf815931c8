-- There are choices that obey the definition: the ways down are settled from the last place to the first, and then the
-- ways up from the first to the last.
use Rattle.std.proofs.Common.{◌≡◌, ◌≢◌, ℕ, zero, suc, ◌+◌, ◌-◌, ◌<◌, ◌⊎◌, Bool, true, false, cond, ◌==◌, List, length, Option, Some, None, refl, sym, subst, ◌∙◌, inl, inr, arith}
use Rattle.std.proofs.lemmas.Bool.{eqb-true, eqb-false, eq-eqb, ne_eqb, cond-true, cond-false}
use Rattle.updn_routes.specs.declared.link.Link.{Link}
use Rattle.updn_routes.specs.Cabling.{is_cabling, leads, links_of}
use Rattle.updn_routes.specs.Choice.{AllChosen, IsRule}
use Rattle.updn_routes.specs.Order.{IsOrder, place_of}
use Rattle.updn_routes.specs.UpDown.{is_down, is_up}
use Rattle.updn_routes.proofs.CablingLemmas.{ends, leads_next}
use Rattle.updn_routes.proofs.PlaceLemmas.{place_below, place_less}
use Rattle.updn_routes.proofs.TableLemmas.{IsBest, IsEntry, NoneAt, all_chosen, picked_by}
use Rattle.updn_routes.proofs.BestLemmas.{BestIn, Chosen, NoneIn, choose}

-- ---- a table filled in the order of a measure: some entries are given, and each other is the best of its links, which
-- lead to entries of less measure
abbrev pub Given : Type 0
Given = Option (Option ℕ × Option ℕ)

abbrev IsCell : List (List Link) → (ℕ → ℕ → Bool) → (ℕ → Option ℕ) → (ℕ → Option ℕ) → ℕ → Given → Type 0
IsCell rows kind far next s (Some cell) = (far s ≡ cell.0) × (next s ≡ cell.1)
IsCell rows kind far next s None =
    ((port : ℕ) × (k : ℕ) × (far s ≡ Some (suc k)) × (next s ≡ Some port) × IsBest rows (kind s) far s port k)
    ⊎ ((far s ≡ None) × (next s ≡ None) × NoneAt rows (kind s) far s)

module _ (rows : List (List Link)) (cabling : is_cabling rows ≡ true) (kind : ℕ → ℕ → Bool) (measure : ℕ → ℕ)
    (falls : (s t : ℕ) → s < length rows → t < length rows → kind s t ≡ true → measure t < measure s) (given : ℕ → Given) where
  abbrev pub Filled : ℕ → Type 0
  Filled m =
      (far : ℕ → Option ℕ) × (next : ℕ → Option ℕ) × ((s : ℕ) → s < length rows → measure s < m → IsCell rows kind far next s (given s))

  -- the entry at s, by those before it
  abbrev cell_of : (far : ℕ → Option ℕ) (s : ℕ) → Given → Chosen (links_of rows s) (kind s) far → Option ℕ × Option ℕ
  cell_of far s (Some cell) best = cell
  cell_of far s None (inl best) = (Some (suc best.1), Some best.0)
  cell_of far s None (inr none) = (None, None)

  there : (s q t : ℕ) → s < length rows → leads rows s q t ≡ true → t < length rows
  there s q t less out = (ends rows s t cabling less (leads_next rows s q t out)).0

  -- where tables agree at all that the links lead to
  best_moves : (far new : ℕ → Option ℕ) (s port k : ℕ) → s < length rows
      → ((t : ℕ) → t < length rows → kind s t ≡ true → new t ≡ far t)
      → BestIn (links_of rows s) (kind s) far port k → IsBest rows (kind s) new s port k
  best_moves far new s port k less agree best =
      record {
        to = best.to;
        out = best.out;
        fits = best.fits;
        at = agree best.to (there s port best.to less best.out) best.fits ∙ best.at;
        nearest = λ q t j way so at. best.nearest q t j way so (sym (agree t (there s q t less way) so) ∙ at);
        least = λ q t way so at. best.least q t way so (sym (agree t (there s q t less way) so) ∙ at);
      }

  none_moves : (far new : ℕ → Option ℕ) (s : ℕ) → s < length rows
      → ((t : ℕ) → t < length rows → kind s t ≡ true → new t ≡ far t)
      → NoneIn (links_of rows s) (kind s) far → NoneAt rows (kind s) new s
  none_moves far new s less agree none q t way so = agree t (there s q t less way) so ∙ none q t way so

  cell_moves : (far next new now : ℕ → Option ℕ) (s : ℕ) → s < length rows → new s ≡ far s → now s ≡ next s
      → ((t : ℕ) → t < length rows → kind s t ≡ true → new t ≡ far t)
      → (g : Given) → IsCell rows kind far next s g → IsCell rows kind new now s g
  cell_moves far next new now s less e f agree (Some cell) h = (e ∙ h.0, f ∙ h.1)
  cell_moves far next new now s less e f agree None (inl h) =
      let best = h.4 in
      inl (h.0, h.1, e ∙ h.2, f ∙ h.3, best_moves far new s h.0 h.1 less agree (record { to = best.to; out = best.out; fits = best.fits; at = best.at; nearest = best.nearest; least = best.least }))
  cell_moves far next new now s less e f agree None (inr h) =
      inr (e ∙ h.0, f ∙ h.1, none_moves far new s less agree h.2)

  cell_made : (far new now : ℕ → Option ℕ) (s : ℕ) → s < length rows
      → ((t : ℕ) → t < length rows → kind s t ≡ true → new t ≡ far t)
      → (g : Given) (best : Chosen (links_of rows s) (kind s) far) → new s ≡ (cell_of far s g best).0
      → now s ≡ (cell_of far s g best).1 → IsCell rows kind new now s g
  cell_made far new now s less agree (Some cell) best e f = (e, f)
  cell_made far new now s less agree None (inl best) e f =
      inl (best.0, best.1, e, f, best_moves far new s best.0 best.1 less agree best.2)
  cell_made far new now s less agree None (inr none) e f = inr (e, f, none_moves far new s less agree none)

  filled : (m : ℕ) → Filled m
  filled zero = (λ s. None, λ s. None, λ s less low. absurd (let no_room : ⊥ = omega (arith, low) in no_room))
  filled (suc m) = more (filled m)
    where
      more : Filled m → Filled (suc m)
      more (table) = (new, now, right)
        where
          cell : ℕ → Option ℕ × Option ℕ
          cell s = cell_of table.0 s (given s) (choose (kind s) table.0 (links_of rows s))

          new : ℕ → Option ℕ
          new s = cond (measure s == m) (cell s).0 (table.0 s)

          now : ℕ → Option ℕ
          now s = cond (measure s == m) (cell s).1 (table.1 s)

          old : (t : ℕ) → measure t < m → new t ≡ table.0 t
          old t low =
              cond-false (measure t == m) (cell t).0 (table.0 t) (ne_eqb (measure t) m (λ same. omega (arith, low, same)))

          right : (s : ℕ) → s < length rows → measure s < suc m → IsCell rows kind new now s (given s)
          right s less low = by (measure s == m) refl
            where
              by : (b : Bool) → (measure s == m) ≡ b → IsCell rows kind new now s (given s)
              by true e =
                  let here = eqb-true (measure s) m e in
                  cell_made table.0 new now s less (λ t tl so. old t (let down =
                  falls s t less tl so in omega (arith, down, here))) (given s) (choose (kind s) table.0 (links_of rows s))
                  (cond-true (measure s == m) (cell s).0 (table.0 s) e) (cond-true (measure s == m) (cell s).1 (table.1 s) e)
              by false e =
                  let other = eqb-false (measure s) m e in
                  let below : measure s < m = omega (arith, low, other) in
                  cell_moves table.0 table.1 new now s less (cond-false (measure s == m) (cell s).0 (table.0 s) e) (cond-false (measure s == m) (cell s).1 (table.1 s) e)
                  (λ t tl so. old t (let down = falls s t less tl so in omega (arith, down, below))) (given s) (table.2 s less below)

-- ---- both passes
module _ (rows : List (List Link)) (before : ℕ → ℕ → Bool) (d : ℕ) (cabling : is_cabling rows ≡ true) (order : IsOrder (length rows) before) where
  abbrev place : ℕ → ℕ
  place s = place_of before (length rows) s

  abbrev home : ℕ → Given
  home s = cond (s == d) (Some (Some 0, None)) None

  later : (s t : ℕ) → s < length rows → t < length rows → is_down before s t ≡ true
      → length rows - place t < length rows - place s
  later s t sl tl so =
      let less = place_less (length rows) before order s t sl so in
      let low = place_below (length rows) before order t tl in
      omega (arith, less, low)

  downs : Filled rows cabling (is_down before) (λ s. length rows - place s) later home (length rows + 1)
  downs = filled rows cabling (is_down before) (λ s. length rows - place s) later home (length rows + 1)

  down_cell : (s : ℕ) → s < length rows → IsCell rows (is_down before) downs.0 downs.1 s (home s)
  down_cell s less = downs.2 s less (omega arith)

  -- what is given to the second pass: each way down
  abbrev kept : Option ℕ → Option ℕ → Given
  kept None port = None
  kept (Some k) port = Some (Some k, port)

  earlier : (s t : ℕ) → s < length rows → t < length rows → is_up before s t ≡ true → place t < place s
  earlier s t sl tl so = place_less (length rows) before order t s tl so

  ups : Filled rows cabling (is_up before) place earlier (λ s. kept (downs.0 s) (downs.1 s)) (length rows)
  ups = filled rows cabling (is_up before) place earlier (λ s. kept (downs.0 s) (downs.1 s)) (length rows)

  up_cell : (s : ℕ) (o : Option ℕ) → s < length rows → downs.0 s ≡ o
      → IsCell rows (is_up before) ups.0 ups.1 s (kept o (downs.1 s))
  up_cell s o less e =
      subst (λ (o : Option ℕ). IsCell rows (is_up before) ups.0 ups.1 s (kept o (downs.1 s))) e (ups.2 s less (place_below (length rows) before order s less))

  down_home : d < length rows → downs.0 d ≡ Some 0
  down_home less =
      (subst (λ (g : Given). IsCell rows (is_down before) downs.0 downs.1 d g) (cond-true (d == d) (Some (Some 0, None)) None (eq-eqb d d refl)) (down_cell d less)).0

  entry : (s : ℕ) → s < length rows → s ≢ d → IsEntry rows before downs.0 ups.0 ups.1 s
  entry s less away =
      on (subst (λ (g : Given). IsCell rows (is_down before) downs.0 downs.1 s g) (cond-false (s == d) (Some (Some 0, None)) None (ne_eqb s d away)) (down_cell s less))
    where
      up : downs.0 s ≡ None → NoneAt rows (is_down before s) downs.0 s → IsCell rows (is_up before) ups.0 ups.1 s None
          → IsEntry rows before downs.0 ups.0 ups.1 s
      up e none (inl h) = inr (inl (record { port = h.0; more = h.1; down_is = e; none_down = none; own_is = h.2; next_is = h.3; best = h.4 }))
      up e none (inr h) = inr (inr (record { down_is = e; none_down = none; own_is = h.0; none_up = h.2; next_is = h.1 }))

      on : IsCell rows (is_down before) downs.0 downs.1 s None → IsEntry rows before downs.0 ups.0 ups.1 s
      on (inl h) =
          let kept_is = up_cell s (Some (suc h.1)) less h.2 in
          inl (record { port = h.0; more = h.1; down_is = h.2; own_is = kept_is.0; next_is = kept_is.1 ∙ h.3; best = h.4 })
      on (inr h) = up h.0 h.2 (up_cell s None less h.0)

  pub there_are : (pick : ℕ → ℕ → ℕ) → IsRule pick → d < length rows → (next : ℕ → Option ℕ) × AllChosen rows before pick next d
  there_are pick rule less = (
    λ s. picked_by rows before pick downs.0 ups.0 s (downs.0 s) (ups.0 s),
    all_chosen rows before d cabling downs.0 ups.0 ups.1 (down_home less) (up_cell d (Some 0) less (down_home less)).0 entry pick
        (λ s. picked_by rows before pick downs.0 ups.0 s (downs.0 s) (ups.0 s)) rule (λ s low away. refl),
  )
