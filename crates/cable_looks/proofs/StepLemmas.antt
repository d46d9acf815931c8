-- The steps of loads: their greatest loads ascend, so that a load is of the first that it does not exceed.
use Rattle.std.proofs.Common.{ℕ, zero, suc, ◌+◌, ◌-◌, ◌*◌, ◌<◌, ◌≤◌, ◌≡◌, ◌&&◌, ◌++◌, ◌∙◌, ap, refl, arith, cond, lit<, inl, inr, Bool, true, false, List, [], ◌∷◌, count_by, nat_le}
use Rattle.std.specs.Prelude.{filter, flat_map, length}
use Rattle.std.specs.List.{range_with_len}
use Rattle.std.proofs.lemmas.Bool.{cases_lt, le-leb, lt-leb, lt-ltb}
use Rattle.std.proofs.Math.Nat.{lt_of_mul-lt-mul_left}
use Rattle.step_results.proofs.RangeLemmas.{range_more}
use Rattle.step_results.proofs.RisingLemmas.{counted}
use Rattle.text_words.proofs.RowLemmas.{text_of_one_more}
use Rattle.cable_looks.specs.Laws.{EachLoadHasOneRow, StepsAreFifths, has_load}
use Rattle.cable_looks.specs.Steps.{exceeds, least_of, step_of, top_of}
use Rattle.cable_looks.specs.WrongRules.{NotAllAreHot, RowsDoNotOverlap, StepsAreNotQuarters}

over : (most load step : ℕ) → top_of most step < load → exceeds most load step ≡ true
over most load step above = lt-ltb (top_of most step) load above

within : (most load step : ℕ) → load ≤ top_of most step → exceeds most load step ≡ false
within most load step low = lt-leb (suc (top_of most step)) load (omega (arith, low))

-- ---- one step more is counted
step_more : (p : ℕ → Bool) (k : ℕ) → count_by p (range_with_len 1 (suc k)) ≡ count_by p (range_with_len 1 k) + cond (p (1 + k)) 1 0
step_more p k = rw (range_more 1 k) (count_more p (range_with_len 1 k) (1 + k))
  where
    count_more : (p : ℕ → Bool) (xs : List ℕ) (x : ℕ) → count_by p (xs ++ x ∷ []) ≡ count_by p xs + cond (p x) 1 0
    count_more p [] x = let one = counted p x [] in omega (arith, one)
    count_more p (y ∷ ys) x =
        let more = counted p y (ys ++ x ∷ []) in
        let these = counted p y ys in
        let rest = count_more p ys x in
        omega (arith, more, these, rest)

pub step_counted : (p : ℕ → Bool) (step count : ℕ) → 1 ≤ step → count ≡ count_by p (range_with_len 1 (step - 1))
    → count + cond (p step) 1 0 ≡ count_by p (range_with_len 1 (step + 1 - 1))
step_counted p zero count some was = absurd (omega (arith, some))
step_counted p (suc k) count some was =
    let before : suc k - 1 ≡ k = omega arith in
    let after : suc k + 1 - 1 ≡ suc k = omega arith in
    let this : 1 + k ≡ suc k = omega arith in
    let counts : count ≡ count_by p (range_with_len 1 k) = was ∙ rw before refl in
    rw (after, step_more p k, this, counts) refl

pub rows_more : (f : ℕ → List ℕ) (old text new : List ℕ) (step : ℕ) → 1 ≤ step → text ≡ old ++ flat_map f (range_with_len 1 (step - 1))
    → new ≡ text ++ f step → new ≡ old ++ flat_map f (range_with_len 1 (step + 1 - 1))
rows_more f old text new step some was grown = text_of_one_more 1 f old text new (step - 1) (step + 1 - 1) step (omega (arith, some)) (omega (arith, some)) was grown

-- ---- the step is the first whose greatest load is not exceeded, or the last
data Placed (most load : ℕ) : Type 0 where
  at1 : load ≤ top_of most 1 → step_of most load ≡ 1 → Placed most load
  at2 : top_of most 1 < load → load ≤ top_of most 2 → step_of most load ≡ 2 → Placed most load
  at3 : top_of most 2 < load → load ≤ top_of most 3 → step_of most load ≡ 3 → Placed most load
  at4 : top_of most 3 < load → load ≤ top_of most 4 → step_of most load ≡ 4 → Placed most load
  at5 : top_of most 4 < load → step_of most load ≡ 5 → Placed most load

placed : (most load : ℕ) → Placed most load
placed most load = elim (cases_lt (top_of most 1) load) [
  | inr a ↦ at1 a (rw (within most load 1 a, within most load 2 (omega (arith, a)), within most load 3 (omega (arith, a)), within most load 4 (omega (arith, a))) refl)
  | inl a ↦ elim (cases_lt (top_of most 2) load) [
    | inr b ↦ at2 a b (rw (over most load 1 a, within most load 2 b, within most load 3 (omega (arith, b)), within most load 4 (omega (arith, b))) refl)
    | inl b ↦ elim (cases_lt (top_of most 3) load) [
      | inr c ↦ at3 b c (rw (over most load 1 a, over most load 2 b, within most load 3 c, within most load 4 (omega (arith, c))) refl)
      | inl c ↦ elim (cases_lt (top_of most 4) load) [
        | inr d ↦ at4 c d (rw (over most load 1 a, over most load 2 b, over most load 3 c, within most load 4 d) refl)
        | inl d ↦ at5 d (rw (over most load 1 a, over most load 2 b, over most load 3 c, over most load 4 d) refl)
      ]
    ]
  ]
]

-- ---- so it counts fifths
first : (most load : ℕ) → 1 ≤ step_of most load
first most load = omega arith

holds : (most load : ℕ) → load ≤ most → load * 5 ≤ most * step_of most load
holds most load all = by (placed most load)
  where
    by : Placed most load → load * 5 ≤ most * step_of most load
    by (at1 b is) = rw is (omega (arith, b))
    by (at2 a b is) = rw is (omega (arith, b))
    by (at3 a b is) = rw is (omega (arith, b))
    by (at4 a b is) = rw is (omega (arith, b))
    by (at5 a is) = rw is (omega (arith, all))

-- a number of fifths that holds a load is greater than one that the load exceeds
more : (most load step fifths : ℕ) → most * step < load * 5 → load * 5 ≤ most * fifths → step < fifths
more most load step fifths a h = lt_of_mul-lt-mul_left most (omega (arith, a, h))

least : (most load fifths : ℕ) → 1 ≤ fifths → load * 5 ≤ most * fifths → step_of most load ≤ fifths
least most load fifths one h = by (placed most load)
  where
    by : Placed most load → step_of most load ≤ fifths
    by (at1 b is) = rw is one
    by (at2 a b is) = rw is (let n = more most load 1 fifths (omega (arith, a)) h in omega (arith, n))
    by (at3 a b is) = rw is (let n = more most load 2 fifths (omega (arith, a)) h in omega (arith, n))
    by (at4 a b is) = rw is (let n = more most load 3 fifths (omega (arith, a)) h in omega (arith, n))
    by (at5 a is) = rw is (let n = more most load 4 fifths (omega (arith, a)) h in omega (arith, n))

pub steps_are_fifths : StepsAreFifths
steps_are_fifths = record { first = first; holds = holds; least = least }

-- ---- each load is in the row of its step
above : (most load step : ℕ) → top_of most step < load → has_load least_of top_of most load step ≡ false
above most load step a = by (nat_le (least_of most step) load) (nat_le load (top_of most step)) (lt-leb load (top_of most step) a)
  where
    by : (x y : Bool) → y ≡ false → (x && y) ≡ false
    by true y e = e
    by false y e = refl

below : (most load step : ℕ) → load < least_of most step → has_load least_of top_of most load step ≡ false
below most load step b = rw (lt-leb (least_of most step) load b) refl

inside : (most load step : ℕ) → least_of most step ≤ load → load ≤ top_of most step → has_load least_of top_of most load step ≡ true
inside most load step a b = rw (le-leb (least_of most step) load a, le-leb load (top_of most step) b) refl

pub each_load_has_one_row : EachLoadHasOneRow
each_load_has_one_row most load all = by (placed most load)
  where
    by : Placed most load → filter (has_load least_of top_of most load) (range_with_len 1 5) ≡ step_of most load ∷ []
    by (at1 b is) = rw (is, inside most load 1 (omega arith) b, below most load 2 (omega (arith, b)), below most load 3 (omega (arith, b)), below most load 4 (omega (arith, b)), below most load 5 (omega (arith, b))) refl
    by (at2 a b is) = rw (is, above most load 1 a, inside most load 2 (omega (arith, a)) b, below most load 3 (omega (arith, b)), below most load 4 (omega (arith, b)), below most load 5 (omega (arith, b))) refl
    by (at3 a b is) = rw (is, above most load 1 (omega (arith, a)), above most load 2 a, inside most load 3 (omega (arith, a)) b, below most load 4 (omega (arith, b)), below most load 5 (omega (arith, b))) refl
    by (at4 a b is) = rw (is, above most load 1 (omega (arith, a)), above most load 2 (omega (arith, a)), above most load 3 a, inside most load 4 (omega (arith, a)) b, below most load 5 (omega (arith, b))) refl
    by (at5 a is) = rw (is, above most load 1 (omega (arith, a)), above most load 2 (omega (arith, a)), above most load 3 (omega (arith, a)), above most load 4 a, inside most load 5 (omega (arith, a)) (omega (arith, all))) refl

-- ---- wrong rules
pub not_all_are_hot : NotAllAreHot
not_all_are_hot law = let most : 5 ≤ 1 = law.least 0 0 1 (lit< tt) (omega arith) in absurd (omega (arith, most))

-- of 100 the load 24 is of step 1, which holds 20
pub steps_are_not_quarters : StepsAreNotQuarters
steps_are_not_quarters law = let most : 120 ≤ 100 = law.holds 100 24 (lit< tt) in absurd (omega (arith, most))

-- of 5 the load 1 is the top of the first row
pub rows_do_not_overlap : RowsDoNotOverlap
rows_do_not_overlap law = let two : 2 ≡ 1 = ap (λ (rows : List ℕ). length rows) (law 5 1 (lit< tt)) in absurd (omega (arith, two))
