-- Tests of all elements of a list, of some, and of each pair of them, where the list is mapped, filtered or grows.
use Rattle.std.proofs.Common.{Bool, true, false, not, List, [], ◌∷◌, ◌++◌, map, filter, ◌≡◌, ◌∙◌, refl, inl, inr}
use Rattle.std.specs.List.{list_all, list_any}
use Rattle.std.proofs.lemmas.Bool.{cases_Bool, both_ways, and_from, and_parts, or_cases, or_parts, or_left, or_right, not_from_false, not_from_true}
use Rattle.std.proofs.lemmas.List.Folds.{list_all-append}
use Rattle.sa_model.specs.Sound.{pairwise}

pub all_map : {X Y : Type 0} (p : X → Bool) (q : Y → Bool) (f : X → Y) → ((x : X) → p x ≡ true → q (f x) ≡ true) → (xs : List X) → list_all p xs ≡ true → list_all q (map f xs) ≡ true
all_map p q f implies [] all = refl
all_map p q f implies (x ∷ xs) all =
    let parts = and_parts (p x) (list_all p xs) all in
    and_from (q (f x)) (list_all q (map f xs)) (implies x parts.0) (all_map p q f implies xs parts.1)

-- what is filtered passes the filter besides
pub all_filter : {X : Type 0} (p t q : X → Bool) → ((x : X) → p x ≡ true → t x ≡ true → q x ≡ true) → (xs : List X) → list_all p xs ≡ true → list_all q (filter t xs) ≡ true
all_filter p t q implies [] all = refl
all_filter p t q implies (x ∷ xs) all =
    let parts = and_parts (p x) (list_all p xs) all in
    elim (cases_Bool (t x)) [
      | inl here ↦ rw here (and_from (q x) (list_all q (filter t xs)) (implies x parts.0 here) (all_filter p t q implies xs parts.1))
      | inr out ↦ rw out (all_filter p t q implies xs parts.1)
    ]

-- and has what the filter itself implies
pub all_of_filter : {X : Type 0} (keep p : X → Bool) → ((x : X) → keep x ≡ true → p x ≡ true) → (xs : List X) → list_all p (filter keep xs) ≡ true
all_of_filter keep p implies [] = refl
all_of_filter keep p implies (x ∷ xs) = elim (cases_Bool (keep x)) [
  | inl here ↦ rw here (and_from (p x) (list_all p (filter keep xs)) (implies x here) (all_of_filter keep p implies xs))
  | inr out ↦ rw out (all_of_filter keep p implies xs)
]

pub filter_of_none : {X : Type 0} (keep : X → Bool) (xs : List X) → list_all (λ x. not (keep x)) xs ≡ true → filter keep xs ≡ []
filter_of_none keep [] all = refl
filter_of_none keep (x ∷ xs) all =
    let parts = and_parts (not (keep x)) (list_all (λ y. not (keep y)) xs) all in
    elim (cases_Bool (keep x)) [
      | inl here ↦ absurd (both_ways (not (keep x)) (not_from_true (keep x) here) parts.0)
      | inr out ↦ rw out (filter_of_none keep xs parts.1)
    ]

-- where none passes, all fail
pub all_fail : {X : Type 0} (p : X → Bool) (xs : List X) → list_any p xs ≡ false → list_all (λ x. not (p x)) xs ≡ true
all_fail p [] none = refl
all_fail p (x ∷ xs) none =
    let parts = or_parts (p x) (list_any p xs) none in
    and_from (not (p x)) (list_all (λ y. not (p y)) xs) (not_from_false (p x) parts.0) (all_fail p xs parts.1)

pub any_map : {X Y : Type 0} (p : X → Bool) (q : Y → Bool) (f : X → Y) → ((x : X) → p x ≡ true → q (f x) ≡ true) → (xs : List X) → list_any p xs ≡ true → list_any q (map f xs) ≡ true
any_map p q f implies [] some = some
any_map p q f implies (x ∷ xs) some = elim (or_cases (p x) (list_any p xs) some) [
  | inl here ↦ or_left (q (f x)) (list_any q (map f xs)) (implies x here)
  | inr later ↦ or_right (q (f x)) (list_any q (map f xs)) (any_map p q f implies xs later)
]

-- ---- pairs
pub pairwise_map : {X : Type 0} (r : X → X → Bool) (f : X → X) → ((a b : X) → r a b ≡ true → r (f a) (f b) ≡ true) → (xs : List X) → pairwise r xs ≡ true → pairwise r (map f xs) ≡ true
pairwise_map r f keeps [] pairs = refl
pairwise_map r f keeps (x ∷ xs) pairs =
    let parts = and_parts (list_all (r x) xs) (pairwise r xs) pairs in
    and_from (list_all (r (f x)) (map f xs)) (pairwise r (map f xs))
    (all_map (r x) (r (f x)) f (λ y e. keeps x y e) xs parts.0)
    (pairwise_map r f keeps xs parts.1)

pub pairwise_filter : {X : Type 0} (r : X → X → Bool) (t : X → Bool) (xs : List X) → pairwise r xs ≡ true → pairwise r (filter t xs) ≡ true
pairwise_filter r t [] pairs = refl
pairwise_filter r t (x ∷ xs) pairs =
    let parts = and_parts (list_all (r x) xs) (pairwise r xs) pairs in
    elim (cases_Bool (t x)) [
      | inl here ↦ rw here (and_from (list_all (r x) (filter t xs)) (pairwise r (filter t xs))
          (all_filter (r x) t (r x) (λ y e in_it. e) xs parts.0) (pairwise_filter r t xs parts.1))
      | inr out ↦ rw out (pairwise_filter r t xs parts.1)
    ]

pub pairwise_append : {X : Type 0} (r : X → X → Bool) (xs ys : List X) → pairwise r xs ≡ true → pairwise r ys ≡ true
    → list_all (λ x. list_all (r x) ys) xs ≡ true → pairwise r (xs ++ ys) ≡ true
pairwise_append r [] ys in_xs in_ys between = in_ys
pairwise_append r (x ∷ xs) ys in_xs in_ys between =
    let first = and_parts (list_all (r x) xs) (pairwise r xs) in_xs in
    let to_ys = and_parts (list_all (r x) ys) (list_all (λ y. list_all (r y) ys) xs) between in
    and_from (list_all (r x) (xs ++ ys)) (pairwise r (xs ++ ys))
    (list_all-append (r x) xs ys ∙ and_from (list_all (r x) xs) (list_all (r x) ys) first.0 to_ys.0)
    (pairwise_append r xs ys first.1 in_ys to_ys.1)
