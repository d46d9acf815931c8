-- Tables of keys: what a push keeps, what is found, and when two tables share a partition.
use Rattle.std.proofs.Common.{◌≡◌, ℕ, true, false, ◌==◌, ◌&&◌, List, find, is_some, IfSome, [], ◌∷◌, ◌++◌, refl, inl, inr}
use Rattle.std.specs.List.{IsDistinct, list_any}
use Rattle.std.proofs.lemmas.Map.Keys.{IsDistinct-push}
use Rattle.std.proofs.lemmas.Cmp.{nat_eq_equiv, on_equiv}
use Rattle.std.proofs.lemmas.Bool.{and_parts, and_from, or_cases, or_left, or_right, eq-eqb, eqb-true, cases_Bool}
use Rattle.step_results.proofs.ListLemmas.{list_any_weaker}
use Rattle.step_results.proofs.TestLemmas.{same_either_way}
use Rattle.pkey_rules.specs.PKey.{base_of, matches}
use Rattle.pkey_rules.specs.KeyTable.{accepts, holds, has_base, same_base, shares, shares_base, SomeSharedBase}

has_base-same_base : (key : ℕ) (keys : List ℕ) → has_base (base_of key) keys ≡ list_any (same_base key) keys
has_base-same_base key [] = refl
has_base-same_base key (held ∷ keys) =
    rw (same_either_way (base_of held) (base_of key), has_base-same_base key keys) refl

-- a key of a base that is not there may be added
pub distinct_push : (key : ℕ) (keys : List ℕ) → has_base (base_of key) keys ≡ false → IsDistinct same_base keys → IsDistinct same_base (keys ++ key ∷ [])
distinct_push key keys free distinct =
    IsDistinct-push (on_equiv base_of nat_eq_equiv) keys key distinct (rw (← has_base-same_base key keys) free)

-- matching keys are of one base
matches_same_base : (a b : ℕ) → matches a b ≡ true → ((base_of a == base_of b) && matches a b) ≡ true
matches_same_base a b h = and_from (base_of a == base_of b) (matches a b) (and_parts (base_of a == base_of b) _ h).0 h

pub shared_base : (ps qs : List ℕ) → shares ps qs ≡ true → SomeSharedBase ps qs
shared_base [] qs h = absurd (cc)
shared_base (p ∷ ps) qs h =
    elim (or_cases (accepts p qs) (shares ps qs) h) [
      | inl here ↦ (
        base_of p,
        or_left _ (shares_base (base_of p) ps qs)
            (and_from (base_of p == base_of p) _ (eq-eqb (base_of p) (base_of p) refl)
            (list_any_weaker (λ q. matches q p) (λ q. (base_of q == base_of p) && matches q p) (λ q e. matches_same_base q p e) qs here)),
      )
      | inr later ↦ let found : SomeSharedBase ps qs = shared_base ps qs later in
          (found.0, or_right _ (shares_base found.0 ps qs) found.1)
    ]

pub shares_from_base : (base : ℕ) (ps qs : List ℕ) → shares_base base ps qs ≡ true → shares ps qs ≡ true
shares_from_base base ps qs h =
    list_any_weaker (λ p. (base_of p == base) && list_any (λ q. (base_of q == base) && matches q p) qs) (λ p. accepts p qs)
    (λ p e. list_any_weaker (λ q. (base_of q == base) && matches q p) (λ q. matches q p) (λ q f. (and_parts (base_of q == base) (matches q p) f).1) qs
    (and_parts (base_of p == base) _ e).1)
    ps h

-- what is found is there, and is what was looked for
pub find_is_some : (bits : ℕ) (keys : List ℕ) → is_some (find (λ held. held == bits) keys) ≡ holds bits keys
find_is_some bits [] = refl
find_is_some bits (key ∷ keys) = elim (cases_Bool (key == bits)) [
  | inl here ↦ rw here refl
  | inr other ↦ rw other (find_is_some bits keys)
]

pub find_is_same : (bits : ℕ) (keys : List ℕ) → IfSome (find (λ held. held == bits) keys) (λ key. key ≡ bits)
find_is_same bits [] = tt
find_is_same bits (key ∷ keys) = elim (cases_Bool (key == bits)) [
  | inl here ↦ rw here (eqb-true key bits here)
  | inr other ↦ rw other (find_is_same bits keys)
]
