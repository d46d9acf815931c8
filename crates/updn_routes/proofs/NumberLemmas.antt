-- The numbers of the channels that a legal walk goes over: they rise, and so it is short.
use Rattle.std.proofs.Common.{◌≡◌, ℕ, suc, ◌+◌, ◌-◌, ◌*◌, ◌<◌, ◌≤◌, Bool, true, ◌&&◌, nat_le, nat_lt, List, [], ◌∷◌, length, refl, ap, inl, inr, arith}
use Rattle.std.specs.List.{list_all}
use Rattle.std.proofs.lemmas.Bool.{and_parts, and_from, or_cases, leb-true, le-leb, ltb-true, lt-ltb}
use Rattle.step_results.proofs.ListLemmas.{list_all_weaker}
use Rattle.updn_routes.specs.declared.link.Link.{Link}
use Rattle.updn_routes.specs.Cabling.{is_cabling, is_next_to, is_walk, rises}
use Rattle.updn_routes.specs.Order.{IsOrder, place_of}
use Rattle.updn_routes.specs.UpDown.{channel_number, channel_numbers, goes_down, is_down, is_legal, is_up}
use Rattle.updn_routes.proofs.CablingLemmas.{ends}
use Rattle.updn_routes.proofs.PlaceLemmas.{after, place_below, place_less}

-- ---- numbers that rise between two bounds
pub record RiseBetween (low high : ℕ) (numbers : List ℕ) : Type 0 where
  pub rising : rises numbers ≡ true
  pub above : list_all (λ y. nat_le low y) numbers ≡ true
  pub below : list_all (λ y. nat_lt y high) numbers ≡ true

lower : (low lowest high : ℕ) (ys : List ℕ) → lowest ≤ low → RiseBetween low high ys → RiseBetween lowest high ys
lower low lowest high ys less r =
    record {
      rising = r.rising;
      above = list_all_weaker (λ y. nat_le low y) (λ y. nat_le lowest y) (λ y h. le-leb lowest y (let from = leb-true low y h in omega (arith, from, less))) ys r.above;
      below = r.below;
    }

nothing : (low high : ℕ) → RiseBetween low high []
nothing low high = record { rising = refl; above = refl; below = refl }

one_more : (low high next y : ℕ) (ys : List ℕ) → low ≤ y → y < next → y < high → RiseBetween next high ys
    → RiseBetween low high (y ∷ ys)
one_more low high next y ys from less to r =
    record {
      rising = and_from (list_all (λ z. nat_lt y z) ys) (rises ys)
          (list_all_weaker (λ z. nat_le next z) (λ z. nat_lt y z) (λ z h. lt-ltb y z (let more = leb-true next z h in omega (arith, more, less))) ys r.above) r.rising;
      above = and_from (nat_le low y) _ (le-leb low y from)
          (list_all_weaker (λ z. nat_le next z) (λ z. nat_le low z) (λ z h. le-leb low z (let more = leb-true next z h in omega (arith, more, less, from))) ys r.above);
      below = and_from (nat_lt y high) _ (lt-ltb y high to) r.below;
    }

few : (low high : ℕ) (ys : List ℕ) → low ≤ high → RiseBetween low high ys → length ys + low ≤ high
few low high [] less r = omega (arith, less)
few low high (y ∷ ys) less r =
    let from = leb-true low y (and_parts (nat_le low y) _ r.above).0 in
    let to = and_parts (nat_lt y high) (list_all (λ z. nat_lt z high) ys) r.below in
    let under = ltb-true y high to.0 in
    let up = and_parts (list_all (λ z. nat_lt y z) ys) (rises ys) r.rising in
    let more = few (y + 1) high ys (omega (arith, under)) (record {
      rising = up.1;
      above = list_all_weaker (λ z. nat_lt y z) (λ z. nat_le (y + 1) z) (λ z h. le-leb (y + 1) z (let past = ltb-true y z h in omega (arith, past))) ys up.0;
      below = to.1;
    }) in
    omega (arith, more, from)

-- ---- walks
module _ (rows : List (List Link)) (before : ℕ → ℕ → Bool) (cabling : is_cabling rows ≡ true) (order : IsOrder (length rows) before) where
  abbrev place : ℕ → ℕ
  place s = place_of before (length rows) s

  up_number : (s t : ℕ) → before t s ≡ true → channel_number before (length rows) s t ≡ length rows - 1 - place s
  up_number s t h = rw h refl

  down_number : (s t : ℕ) → before s t ≡ true → channel_number before (length rows) s t ≡ length rows + place s
  down_number s t h = rw (after (length rows) before order s t h) refl

  pub down_numbers : (s d : ℕ) (steps : List ℕ) → s < length rows → is_walk rows s steps d ≡ true
      → goes_down before s steps ≡ true
      → RiseBetween (length rows + place s) (2 * length rows - 1) (channel_numbers before (length rows) s steps)
  down_numbers s d [] less walk down = nothing _ _
  down_numbers s d (t ∷ steps) less walk down =
      let w = and_parts (is_next_to rows s t) (is_walk rows t steps d) walk in
      let g = and_parts (is_down before s t) (goes_down before t steps) down in
      let there = (ends rows s t cabling less w.0).0 in
      let far = place_less (length rows) before order s t less g.0 in
      let within = place_below (length rows) before order t there in
      let number = down_number s t g.0 in
      one_more (length rows + place s) (2 * length rows - 1) (length rows + place t) (channel_number before (length rows) s t) (channel_numbers before (length rows) t steps)
      (omega (arith, number)) (omega (arith, number, far)) (omega (arith, number, far, within)) (down_numbers t d steps there w.1 g.1)

  pub legal_numbers : (s d : ℕ) (steps : List ℕ) → s < length rows → is_walk rows s steps d ≡ true
      → is_legal before s steps ≡ true
      → RiseBetween (length rows - 1 - place s) (2 * length rows - 1) (channel_numbers before (length rows) s steps)
  legal_numbers s d [] less walk legal = nothing _ _
  legal_numbers s d (t ∷ steps) less walk legal =
      let w = and_parts (is_next_to rows s t) (is_walk rows t steps d) walk in
      let there = (ends rows s t cabling less w.0).0 in
      elim (or_cases (is_up before s t && is_legal before t steps) (goes_down before s (t ∷ steps)) legal) [
        | inl up ↦
            let g = and_parts (is_up before s t) (is_legal before t steps) up in
            let far = place_less (length rows) before order t s there g.0 in
            let within = place_below (length rows) before order s less in
            let number = up_number s t g.0 in
            one_more (length rows - 1 - place s) (2 * length rows - 1) (length rows - 1 - place t) (channel_number before (length rows) s t) (channel_numbers before (length rows) t steps)
            (omega (arith, number)) (omega (arith, number, far, within)) (omega (arith, number, less)) (legal_numbers t d steps there w.1 g.1)
        | inr down ↦ lower (length rows + place s) (length rows - 1 - place s) (2 * length rows - 1) _ (omega arith) (down_numbers s d (t ∷ steps) less walk down)
      ]

  numbers_of : (s : ℕ) (steps : List ℕ) → length (channel_numbers before (length rows) s steps) ≡ length steps
  numbers_of s [] = refl
  numbers_of s (t ∷ steps) = ap suc (numbers_of t steps)

  pub legal_short : (s d : ℕ) (steps : List ℕ) → s < length rows → is_walk rows s steps d ≡ true
      → is_legal before s steps ≡ true → length steps < 2 * length rows
  legal_short s d steps less walk legal =
      let within = place_below (length rows) before order s less in
      let most = few (length rows - 1 - place s) (2 * length rows - 1) _ (omega (arith, less)) (legal_numbers s d steps less walk legal) in
      let same = numbers_of s steps in
      omega (arith, most, same, less)
