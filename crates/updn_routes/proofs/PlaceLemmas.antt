-- The place of a switch, which is how many come before it: places keep the order.
use Rattle.std.proofs.Common.{◌≡◌, ◌≢◌, ℕ, zero, suc, ◌+◌, ◌-◌, ◌<◌, ◌≤◌, Bool, true, false, cond, not, ◌==◌, ◌&&◌, nat_lt, List, [], ◌∷◌, length, filter, refl}
use Rattle.std.proofs.Common.{sym, ap, subst, ◌∙◌, inl, inr, arith}
use Rattle.std.specs.List.{range_with_len}
use Rattle.std.proofs.lemmas.Bool.{and_from, and_parts, cases_lt, or_cases, eq-eqb, eqb-true, eqb-false, lt-ltb, le-ltb, ne_eqb, not_from_false, false≢true}
use Rattle.std.proofs.lemmas.List.FromFn.{length-range_with_len}
use Rattle.updn_routes.specs.Laws.{KeepsTheOrder}
use Rattle.updn_routes.specs.Order.{IsOrder, place_of}

-- ---- what filters keep
-- fewer pass the stronger test
pub fewer : {X : Type 0} (strong weak : X → Bool) → ((t : X) → strong t ≡ true → weak t ≡ true) → (xs : List X)
    → length (filter strong xs) ≤ length (filter weak xs)
fewer strong weak implies [] = omega arith
fewer strong weak implies (x ∷ xs) = by (strong x) (weak x) (implies x) (fewer strong weak implies xs)
  where
    by : (b c : Bool) → (b ≡ true → c ≡ true) → length (filter strong xs) ≤ length (filter weak xs)
        → length (cond b (x ∷ filter strong xs) (filter strong xs)) ≤ length (cond c (x ∷ filter weak xs) (filter weak xs))
    by true true i h = omega (arith, h)
    by true false i h = absurd (false≢true (i refl))
    by false true i h = omega (arith, h)
    by false false i h = h

-- and where one number passes the weaker alone, fewer by one at least
pub fewer_by_one : (strong weak : ℕ → Bool) → ((t : ℕ) → strong t ≡ true → weak t ≡ true) → (first count s : ℕ)
    → first ≤ s → s < first + count
    → strong s ≡ false → weak s ≡ true
    → length (filter strong (range_with_len first count)) < length (filter weak (range_with_len first count))
fewer_by_one strong weak implies first zero s low high gone there =
    absurd (let no_room : ⊥ = omega (arith, low, high) in no_room)
fewer_by_one strong weak implies first (suc count) s low high gone there =
    by (first == s) refl (λ more. fewer_by_one strong weak implies (first + 1) count s more (omega (arith, high)) gone there)
  where
    rest : List ℕ
    rest = range_with_len (first + 1) count

    one : (b c : Bool) → b ≡ false → c ≡ true → length (filter strong rest) ≤ length (filter weak rest)
        → length (cond b (first ∷ filter strong rest) (filter strong rest)) < length (cond c (first ∷ filter weak rest) (filter weak rest))
    one b c e f h = rw (e, f) (omega (arith, h))

    more : (b c : Bool) → (b ≡ true → c ≡ true) → length (filter strong rest) < length (filter weak rest)
        → length (cond b (first ∷ filter strong rest) (filter strong rest)) < length (cond c (first ∷ filter weak rest) (filter weak rest))
    more true true i h = omega (arith, h)
    more true false i h = absurd (false≢true (i refl))
    more false true i h = omega (arith, h)
    more false false i h = h

    by : (b : Bool) → (first == s) ≡ b → (first + 1 ≤ s → length (filter strong rest) < length (filter weak rest))
        → length (filter strong (range_with_len first (suc count))) < length (filter weak (range_with_len first (suc count)))
    by true e later =
        let same = eqb-true first s e in
        one (strong first) (weak first) (subst (λ (k : ℕ). strong k ≡ false) (sym same) gone) (subst (λ (k : ℕ). weak k ≡ true) (sym same) there) (fewer strong weak implies rest)
    by false e later =
        let other = eqb-false first s e in more (strong first) (weak first) (implies first) (later (omega (arith, low, other)))

-- numbers that pass one test, and that another takes to as many others that pass its own, are no more than those
pub no_more_by : (f : ℕ → ℕ) (p q : ℕ → Bool) (first count many : ℕ)
    → ((u : ℕ) → first ≤ u → u < first + count → p u ≡ true → (f u < many) × (q (f u) ≡ true))
    → ((u v : ℕ) → first ≤ u → u < first + count → first ≤ v → v < first + count → p u ≡ true → p v ≡ true → f u ≡ f v → u ≡ v)
    → length (filter p (range_with_len first count)) ≤ length (filter q (range_with_len 0 many))
no_more_by f p q first zero many goes own = omega arith
no_more_by f p q first (suc count) many goes own =
    by (p first) refl
    (λ goes_on. no_more_by f p q (first + 1) count many goes_on later_own)
    (λ goes_on. no_more_by f p (λ v. q v && not (v == f first)) (first + 1) count many goes_on later_own)
  where
    later_own : (u v : ℕ) → first + 1 ≤ u → u < first + 1 + count → first + 1 ≤ v → v < first + 1 + count → p u ≡ true → p v ≡ true → f u ≡ f v
        → u ≡ v
    later_own u v ul uh vl vh passes passes_too same =
        own u v (omega (arith, ul)) (omega (arith, uh)) (omega (arith, vl)) (omega (arith, vh)) passes passes_too same

    rest : List ℕ
    rest = range_with_len (first + 1) count

    other : ℕ → Bool
    other v = q v && not (v == f first)

    by : (b : Bool) → p first ≡ b
        → (((u : ℕ) → first + 1 ≤ u → u < first + 1 + count → p u ≡ true → (f u < many) × (q (f u) ≡ true))
        → length (filter p rest) ≤ length (filter q (range_with_len 0 many)))
        → (((u : ℕ) → first + 1 ≤ u → u < first + 1 + count → p u ≡ true → (f u < many) × (other (f u) ≡ true))
        → length (filter p rest) ≤ length (filter other (range_with_len 0 many)))
        → length (cond b (first ∷ filter p rest) (filter p rest)) ≤ length (filter q (range_with_len 0 many))
    by false e all fewer_left = all (λ u low high passes. goes u (omega (arith, low)) (omega (arith, high)) passes)
    by true e all fewer_left =
        let here = goes first (omega arith) (omega arith) e in
        let left = fewer_left (λ u low high passes.
        let there = goes u (omega (arith, low)) (omega (arith, high)) passes in (
          there.0,
          and_from (q (f u)) (not (f u == f first)) there.1
              (not_from_false (f u == f first) (ne_eqb (f u) (f first) (λ same.
              let even = own u first (omega (arith, low)) (omega (arith, high)) (omega arith) (omega arith) passes e same in
              omega (arith, even, low)))),
        )) in
        let more = fewer_by_one other q (λ t both. (and_parts (q t) (not (t == f first)) both).0) 0 many (f first) (omega arith) (omega (arith, here.0))
        (never (q (f first)) (f first == f first) (eq-eqb (f first) (f first) refl)) here.1 in
        omega (arith, left, more)
      where
        never : (b c : Bool) → c ≡ true → (b && not c) ≡ false
        never true c e = rw e refl
        never false c e = refl

pub all_stay : (xs : List ℕ) → length (filter (λ _. true) xs) ≡ length xs
all_stay [] = refl
all_stay (x ∷ xs) = ap suc (all_stay xs)

apart : (s t : ℕ) → (s == t) ≡ false → s ≢ t
apart s t e same = eqb-false s t e same

-- ---- places of places
none_less : (place first count : ℕ) → place ≤ first
    → length (filter (λ t. nat_lt t place) (range_with_len first count)) ≡ 0
none_less place first zero past = refl
none_less place first (suc count) past =
    rw (le-ltb first place past) (none_less place (first + 1) count (omega (arith, past)))

so_many : (place first count : ℕ) → first ≤ place → place ≤ first + count
    → length (filter (λ t. nat_lt t place) (range_with_len first count)) ≡ place - first
so_many place first zero low high = omega (arith, low, high)
so_many place first (suc count) low high =
    elim (cases_lt first place) [
      | inl less ↦
          let more = so_many place (first + 1) count (omega (arith, less)) (omega (arith, high)) in
          rw (lt-ltb first place less) (omega (arith, more, less))
      | inr past ↦ let none = none_less place first (suc count) past in omega (arith, none, past)
    ]

pub place_itself : (count place : ℕ) → place < count → place_of nat_lt count place ≡ place
place_itself count place less =
    let many = so_many place 0 count (omega arith) (omega (arith, less)) in omega (arith, many)

-- ---- places
module _ (count : ℕ) (before : ℕ → ℕ → Bool) (order : IsOrder count before) where
  -- of two switches one does not come both before and after the other
  pub after : (s t : ℕ) → before s t ≡ true → before t s ≡ false
  after s t h = by (before t s) refl
    where
      by : (b : Bool) → before t s ≡ b → before t s ≡ false
      by true e = absurd (false≢true (sym (order.irreflexive s) ∙ order.transitive s t s h e))
      by false e = e

  pub place_below : (s : ℕ) → s < count → place_of before count s < count
  place_below s less =
      let some = fewer_by_one (λ t. before t s) (λ _. true) (λ t h. refl) 0 count s (omega arith) (omega (arith, less)) (order.irreflexive s) refl in
      let all = all_stay (range_with_len 0 count) in
      let long = length-range_with_len 0 count in
      omega (arith, some, all, long)

  pub place_less : (s t : ℕ) → s < count → before s t ≡ true → place_of before count s < place_of before count t
  place_less s t less h =
      fewer_by_one (λ u. before u s) (λ u. before u t) (λ u k. order.transitive u s t k h) 0 count s (omega arith) (omega (arith, less)) (order.irreflexive s) h

  cases : (s t : ℕ) → s < count → t < count → (b : Bool) → (s == t) ≡ b
      → nat_lt (place_of before count s) (place_of before count t) ≡ before s t
  cases s t sl tl true e =
      let same = eqb-true s t e in
      subst (λ (k : ℕ). nat_lt (place_of before count s) (place_of before count k) ≡ before s k) same
      (le-ltb (place_of before count s) (place_of before count s) (omega arith) ∙ sym (order.irreflexive s))
  cases s t sl tl false e =
      elim (or_cases (before s t) (before t s) (order.total s t sl tl (apart s t e))) [
        | inl h ↦ lt-ltb _ _ (place_less s t sl h) ∙ sym h
        | inr h ↦ le-ltb _ _ (let far = place_less t s tl h in omega (arith, far)) ∙ sym (after t s h)
      ]

  pub place_reports : (s t : ℕ) → s < count → t < count
      → nat_lt (place_of before count s) (place_of before count t) ≡ before s t
  place_reports s t sl tl = cases s t sl tl (s == t) refl

  pub place_own : (s t : ℕ) → s < count → t < count → place_of before count s ≡ place_of before count t → s ≡ t
  place_own s t sl tl same = by (s == t) refl
    where
      by : (b : Bool) → (s == t) ≡ b → s ≡ t
      by true e = eqb-true s t e
      by false e =
          absurd (elim (or_cases (before s t) (before t s) (order.total s t sl tl (apart s t e))) [
            | inl h ↦ let far = place_less s t sl h in omega (arith, far, same)
            | inr h ↦ let far = place_less t s tl h in omega (arith, far, same)
          ])

  pub keeps_order : KeepsTheOrder count before (place_of before count)
  keeps_order = record { below = place_below; less = place_reports; own = place_own }
