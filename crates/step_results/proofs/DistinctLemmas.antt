-- Lists of which no two elements are the same.
use Rattle.std.proofs.Common.{◌≡◌, refl, Bool, true, false, not, ◌&&◌, List, [], ◌∷◌, ◌++◌}
use Rattle.std.specs.List.{list_any, AllByRecursion, IsDistinct}
use Rattle.std.proofs.lemmas.Bool.{and_from, and_parts, not_from_false, not-true, or_from, or_parts}
use Rattle.std.proofs.lemmas.Map.Keys.{IsDistinct-cons, IsDistinct-head, IsDistinct-tail}
use Rattle.step_results.proofs.ListLemmas.{IsDistinct-nil}

-- ---- by a test that computes
abbrev pub all_differ : {X : Type 0} → (X → X → Bool) → List X → Bool
all_differ same [] = true
all_differ same (x ∷ xs) = not (list_any (same x) xs) && all_differ same xs

none_same : {X : Type 0} (same : X → X → Bool) (x : X) (xs : List X) → AllByRecursion (λ y. same x y ≡ false) xs → list_any (same x) xs ≡ false
none_same same x [] h = refl
none_same same x (y ∷ ys) h = or_from (same x y) _ h.0 (none_same same x ys h.1)

pub none_shares : {X : Type 0} (same : X → X → Bool) (x : X) (xs : List X) → IsDistinct same (x ∷ xs) → list_any (same x) xs ≡ false
none_shares same x xs own = none_same same x xs (IsDistinct-head same x xs own)

apart : {X : Type 0} (same : X → X → Bool) (x : X) (xs : List X) → list_any (same x) xs ≡ false → AllByRecursion (λ y. same x y ≡ false) xs
apart same x [] none = tt
apart same x (y ∷ ys) none =
    let parts = or_parts (same x y) (list_any (same x) ys) none in
    (parts.0, apart same x ys parts.1)

pub distinct : {X : Type 0} (same : X → X → Bool) (xs : List X) → all_differ same xs ≡ true → IsDistinct same xs
unfolding IsDistinct
distinct same [] differ = tt
distinct same (x ∷ xs) differ =
    let parts = and_parts (not (list_any (same x) xs)) (all_differ same xs) differ in
    IsDistinct-cons same x xs (apart same x xs (not-true _ parts.0)) (distinct same xs parts.1)

pub differ : {X : Type 0} (same : X → X → Bool) (xs : List X) → IsDistinct same xs → all_differ same xs ≡ true
differ same [] own = refl
differ same (x ∷ xs) own = and_from (not (list_any (same x) xs)) _ (not_from_false _ (none_shares same x xs own)) (differ same xs (IsDistinct-tail same x xs own))

-- ---- in two parts
pub left_part : {X : Type 0} (same : X → X → Bool) (xs ys : List X) → IsDistinct same (xs ++ ys) → IsDistinct same xs
left_part same [] ys own = IsDistinct-nil same
left_part {X = X} same (x ∷ xs) ys own =
    IsDistinct-cons same x xs (first xs (IsDistinct-head same x (xs ++ ys) own)) (left_part same xs ys (IsDistinct-tail same x (xs ++ ys) own))
  where
    first : (some : List X) → AllByRecursion (λ y. same x y ≡ false) (some ++ ys) → AllByRecursion (λ y. same x y ≡ false) some
    first [] all = tt
    first (y ∷ some) all = (all.0, first some all.1)

pub right_part : {X : Type 0} (same : X → X → Bool) (xs ys : List X) → IsDistinct same (xs ++ ys) → IsDistinct same ys
right_part same [] ys own = own
right_part same (x ∷ xs) ys own = right_part same xs ys (IsDistinct-tail same x (xs ++ ys) own)
