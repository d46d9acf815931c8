-- Tests of the elements of lists, and lists whose elements differ.
use Rattle.std.proofs.Common.{ℕ, zero, suc, ◌+◌, ◌<◌, Bool, true, false, List, [], ◌∷◌, ◌++◌, length, take, drop, replicate, get_or, slice_get, find, Some, map, flat_map, ◌&&◌, ◌||◌}
use Rattle.std.proofs.Common.{None, ◌≤◌, ◌⊎◌, ◌≡◌, subst, ◌∙◌, ap, refl, sym, inl, inr, arith}
use Rattle.std.specs.List.{All, AllByRecursion, IsDistinct, list_all, list_any, range_with_len}
use Rattle.std.proofs.lemmas.Bool.{and_from, and_parts, cases_Bool, or_cases, or_from, or_left, or_right}
use Rattle.std.proofs.lemmas.List.{take-append-drop}
use Rattle.std.proofs.lemmas.Option.{get_or_from_slice_get, slice_get_cases}
use Rattle.std.proofs.Math.Nat.{add-zero}
use Rattle.std.proofs.lemmas.List.Folds.{list_all-append, list_any-append}
use Rattle.step_results.proofs.BoolLemmas.{or_exchanged}

-- what passes a test passes a weaker one
pub list_any_weaker : {X : Type 0} (strong weak : X → Bool) → ((x : X) → strong x ≡ true → weak x ≡ true) → (xs : List X) → list_any strong xs ≡ true → list_any weak xs ≡ true
list_any_weaker strong weak implies [] h = h
list_any_weaker strong weak implies (x ∷ xs) h =
    elim (or_cases (strong x) (list_any strong xs) h) [
      | inl here ↦ or_left (weak x) (list_any weak xs) (implies x here)
      | inr later ↦ or_right (weak x) (list_any weak xs) (list_any_weaker strong weak implies xs later)
    ]

pub list_all_weaker : {X : Type 0} (strong weak : X → Bool) → ((x : X) → strong x ≡ true → weak x ≡ true) → (xs : List X) → list_all strong xs ≡ true → list_all weak xs ≡ true
list_all_weaker strong weak implies [] h = refl
list_all_weaker strong weak implies (x ∷ xs) h =
    let parts = and_parts (strong x) (list_all strong xs) h in
    and_from (weak x) (list_all weak xs) (implies x parts.0) (list_all_weaker strong weak implies xs parts.1)

-- where all pass a test, none passes one that excludes it
pub none_passes : {X : Type 0} (p test : X → Bool) → ((x : X) → p x ≡ true → test x ≡ false) → (xs : List X) → list_all p xs ≡ true → list_any test xs ≡ false
none_passes p test fails [] all = refl
none_passes p test fails (x ∷ xs) all =
    let parts = and_parts (p x) (list_all p xs) all in
    or_from (test x) (list_any test xs) (fails x parts.0) (none_passes p test fails xs parts.1)

-- what is found by a test passes it
pub found_passes : {X : Type 0} (test : X → Bool) (xs : List X) (x : X) → find test xs ≡ Some x → test x ≡ true
found_passes test [] x h = absurd (cc)
found_passes test (y ∷ ys) x h = elim (cases_Bool (test y)) [
  | inl here ↦ let same : Some y ≡ Some x = rw here at h in let e : y ≡ x = cc in ap test (sym e) ∙ here
  | inr other ↦ let later : find test ys ≡ Some x = rw other at h in found_passes test ys x later
]

-- one more element that passes
pub list_all_push : {X : Type 0} (p : X → Bool) (xs : List X) (x : X) → list_all p xs ≡ true → p x ≡ true → list_all p (xs ++ x ∷ []) ≡ true
list_all_push p xs x all one = list_all-append p xs (x ∷ []) ∙ and_from (list_all p xs) _ all (and_from (p x) true one refl)

-- of no elements none are the same
pub IsDistinct-nil : {X : Type 0} (same : X → X → Bool) → IsDistinct same []
unfolding IsDistinct
IsDistinct-nil same = tt

-- ---- lists of which each element passes a test: what is made of them, and what stands in them
pub all_joined : {X : Type 0} (p : X → Bool) (xs ys : List X) → list_all p xs ≡ true → list_all p ys ≡ true
    → list_all p (xs ++ ys) ≡ true
all_joined p xs ys one two = list_all-append p xs ys ∙ and_from (list_all p xs) (list_all p ys) one two

pub all_cut : {X : Type 0} (p : X → Bool) (n : ℕ) (xs : List X) → list_all p xs ≡ true
    → (list_all p (take n xs) ≡ true) × (list_all p (drop n xs) ≡ true)
all_cut p n xs all =
    and_parts (list_all p (take n xs)) (list_all p (drop n xs)) (sym (list_all-append p (take n xs) (drop n xs)) ∙ ap (list_all p) (take-append-drop n xs) ∙ all)

pub all_alike : {X : Type 0} (p : X → Bool) (x : X) (n : ℕ) → p x ≡ true → list_all p (replicate n x) ≡ true
all_alike p x zero one = refl
all_alike p x (suc n) one = and_from (p x) _ one (all_alike p x n one)

pub all_there : {X : Type 0} (p : X → Bool) (xs : List X) (i : ℕ) (x : X) → list_all p xs ≡ true → slice_get xs i ≡ Some x
    → p x ≡ true
all_there p [] i x all there = absurd (cc)
all_there p (y ∷ ys) zero x all there =
    let same : y ≡ x = cc in
    ap p (sym same) ∙ (and_parts (p y) (list_all p ys) all).0
all_there p (y ∷ ys) (suc i) x all there = all_there p ys i x (and_parts (p y) (list_all p ys) all).1 there

pub all_at : {X : Type 0} (p : X → Bool) (xs : List X) (i : ℕ) (d : X) → list_all p xs ≡ true → i < length xs → p (get_or xs i d) ≡ true
all_at p [] i d all within = absurd (omega arith)
all_at p (x ∷ xs) zero d all within = (and_parts (p x) (list_all p xs) all).0
all_at p (x ∷ xs) (suc i) d all within = all_at p xs i d (and_parts (p x) (list_all p xs) all).1 (omega arith)

-- an element that stands there has what all have
pub all_have : {X : Type 0} (P : X → Type 0) (xs : List X) (i : ℕ) (x : X) → All P xs → slice_get xs i ≡ Some x → P x
all_have {X = X} P xs i x all there = by_place (slice_get_cases xs i).1
  where
    by_place : ((y : X) × (i < length xs) × (slice_get xs i ≡ Some y) × (get_or xs i y ≡ y)) ⊎ ((length xs ≤ i) × (slice_get xs i ≡ None))
        → P x
    by_place (inl within) = subst P (get_or_from_slice_get xs i x x there) (all i x within.1)
    by_place (inr past) = let none = past.1 in absurd (cc)

-- ---- numbers
pub range_at : (first count k : ℕ) → k < count → slice_get (range_with_len first count) k ≡ Some (first + k)
range_at first zero k h = absurd (omega arith)
range_at first (suc count) zero h = ap (λ (n : ℕ). Some n) (sym (add-zero first))
range_at first (suc count) (suc k) h =
    let moved : (first + 1) + k ≡ first + suc k = omega arith in
    range_at (first + 1) count k (omega arith) ∙ ap (λ (n : ℕ). Some n) moved

-- what is below one number is below all above it
pub all_above : (x y : ℕ) (ys : List ℕ) → x < y → AllByRecursion (λ z. y < z) ys → AllByRecursion (λ z. x < z) ys
all_above x y [] h k = tt
all_above x y (z ∷ ys) h k = (omega (arith, h, k.0), all_above x y ys h k.1)

-- none of a list has what nothing has
pub any_none : {X : Type 0} (xs : List X) → list_any (λ x. false) xs ≡ false
any_none [] = refl
any_none (x ∷ xs) = any_none xs

-- what decides alike finds alike
pub any_alike : {X : Type 0} (p q : X → Bool) → ((x : X) → p x ≡ q x) → (xs : List X) → list_any p xs ≡ list_any q xs
any_alike p q same [] = refl
any_alike p q same (x ∷ xs) = rw (same x, any_alike p q same xs) refl

-- what does not look at the element is asked once
pub any_and : {X : Type 0} (b : Bool) (f : X → Bool) (xs : List X) → list_any (λ x. b && f x) xs ≡ (b && list_any f xs)
any_and true f xs = refl
any_and false f xs = any_none xs

-- one of lists joined is one of one of them
pub any_flat : {X Y : Type 0} (p : Y → Bool) (f : X → List Y) (xs : List X) → list_any p (flat_map f xs) ≡ list_any (λ x. list_any p (f x)) xs
any_flat p f [] = refl
any_flat p f (x ∷ xs) = list_any-append p (f x) (flat_map f xs) ∙ ap (λ b. list_any p (f x) || b) (any_flat p f xs)

-- one of what a function gives
pub any_map : {X Y : Type 0} (p : Y → Bool) (f : X → Y) (xs : List X) → list_any p (map f xs) ≡ list_any (λ x. p (f x)) xs
any_map p f [] = refl
any_map p f (x ∷ xs) = ap (λ rest. p (f x) || rest) (any_map p f xs)

-- some element passes one test or the other
pub any_or : {X : Type 0} (f g : X → Bool) (xs : List X) → list_any (λ x. f x || g x) xs ≡ (list_any f xs || list_any g xs)
any_or f g [] = refl
any_or f g (x ∷ xs) = ap (λ rest. (f x || g x) || rest) (any_or f g xs) ∙ or_exchanged (f x) (g x) (list_any f xs) (list_any g xs)

-- some two are so, whichever is asked first
pub any_turned : {X Y : Type 0} (r : X → Y → Bool) (xs : List X) (ys : List Y)
    → list_any (λ x. list_any (λ y. r x y) ys) xs ≡ list_any (λ y. list_any (λ x. r x y) xs) ys
any_turned r [] ys = sym (any_none ys)
any_turned r (x ∷ xs) ys =
    ap (λ rest. list_any (r x) ys || rest) (any_turned r xs ys) ∙ sym (any_or (λ y. r x y) (λ y. list_any (λ x. r x y) xs) ys)
