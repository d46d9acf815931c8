-- Lists of bases: what is kept when they are sorted and doubles are left out.
use Rattle.std.proofs.Common.{◌≡◌, ℕ, Bool, ◌==◌, List, [], ◌∷◌, ◌++◌, map, refl, sym, ◌∙◌, arith}
use Rattle.std.specs.List.{dedup, list_any}
use Rattle.std.specs.List.Sorted.{IsPermutation}
use Rattle.std.proofs.lemmas.Bool.{eqb-true}
use Rattle.std.proofs.lemmas.Bool.Decides.{nat_tests}
use Rattle.std.proofs.lemmas.Cmp.{nat_eq_equiv}
use Rattle.std.proofs.lemmas.List.Kept.{Contains-dedup_nat, Contains-from_dedup}
use Rattle.std.proofs.lemmas.List.Sorted.{list_any-IsPermutation}
use Rattle.std.proofs.lemmas.Map.Views.{Contains-from_any, list_any-from_Contains}
use Rattle.std.specs.Cmp.{both_ways}

turned : (xs : List ℕ) (b : ℕ) → list_any (λ x. x == b) xs ≡ list_any (λ x. b == x) xs
turned [] b = refl
turned (x ∷ xs) b = let same : (x == b) ≡ (b == x) = grind (arith, nat_tests) in rw (same, turned xs b) refl

without_doubles : (xs : List ℕ) (b : ℕ) → list_any (λ x. b == x) (dedup (λ x y. x == y) xs) ≡ list_any (λ x. b == x) xs
without_doubles xs b =
    let less : List ℕ = dedup (λ x y. x == y) xs in
    both_ways (list_any (λ x. b == x) less) (list_any (λ x. b == x) xs)
    (λ h. list_any-from_Contains nat_eq_equiv b xs (Contains-from_dedup (λ x y. x == y) xs b (Contains-from_any eqb-true b less h)))
    (λ h. list_any-from_Contains nat_eq_equiv b less (Contains-dedup_nat xs b (Contains-from_any eqb-true b xs h)))

-- sorted, without doubles: the same numbers
pub same_numbers : (xs ys zs : List ℕ) (b : ℕ) → IsPermutation xs ys → zs ≡ dedup (λ x y. x == y) ys → list_any (λ x. x == b) zs ≡ list_any (λ x. x == b) xs
same_numbers xs ys zs b moved left =
    rw left
    (turned (dedup (λ x y. x == y) ys) b ∙ without_doubles ys b ∙ sym (turned ys b) ∙ sym (list_any-IsPermutation (λ x. x == b) xs ys moved))

pub any_mapped : {X : Type 0} (f : X → ℕ) (p : ℕ → Bool) (xs : List X) → list_any p (map f xs) ≡ list_any (λ x. p (f x)) xs
any_mapped f p [] = refl
any_mapped f p (x ∷ xs) = rw (any_mapped f p xs) refl

-- of two lists, one behind the other
pub any_mapped_both : {X : Type 0} (f : X → ℕ) (p : ℕ → Bool) (xs ys : List X) → list_any p (map f xs ++ map f ys) ≡ list_any (λ x. p (f x)) (xs ++ ys)
any_mapped_both f p [] ys = any_mapped f p ys
any_mapped_both f p (x ∷ xs) ys = rw (any_mapped_both f p xs ys) refl
