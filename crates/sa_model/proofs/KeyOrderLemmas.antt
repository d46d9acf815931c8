-- Keys in the order of their bases are the same keys.
use Rattle.std.proofs.Common.{ℕ, Bool, true, false, ◌||◌, nat_le, List, [], ◌∷◌}
use Rattle.std.proofs.Common.{◌≡◌, ◌∙◌, ap, refl, inl, inr, arith}
use Rattle.std.specs.List.{list_all, list_any}
use Rattle.std.proofs.lemmas.Bool.{cases_Bool, and_from, and_parts}
use Rattle.std.proofs.lemmas.Bool.Decides.{nat_tests}
use Rattle.step_results.proofs.TestLemmas.{or_turned}
use Rattle.step_results.proofs.ListLemmas.{list_all_weaker}
use Rattle.pkey_rules.specs.PKey.{base_of}
use Rattle.sa_model.specs.Sound.{pairwise}
use Rattle.sa_model.specs.KeyOrder.{with_key, by_base, is_lower_base, KeysStandByBase}

-- what is so of a key, and of each of some, is so of each of them together
pub all_with_key : (p : ℕ → Bool) (key : ℕ) (keys : List ℕ) → p key ≡ true → list_all p keys ≡ true → list_all p (with_key key keys) ≡ true
all_with_key p key [] one all = and_from (p key) true one refl
all_with_key p key (held ∷ keys) one all =
    let parts = and_parts (p held) (list_all p keys) all in
    elim (cases_Bool (nat_le (base_of key) (base_of held))) [
      | inl before ↦ rw before (and_from (p key) (list_all p (held ∷ keys)) one all)
      | inr behind ↦ rw behind (and_from (p held) (list_all p (with_key key keys)) parts.0 (all_with_key p key keys one parts.1))
    ]

pub all_by_base : (p : ℕ → Bool) (keys : List ℕ) → list_all p keys ≡ true → list_all p (by_base keys) ≡ true
all_by_base p [] all = refl
all_by_base p (key ∷ keys) all =
    let parts = and_parts (p key) (list_all p keys) all in
    all_with_key p key (by_base keys) parts.0 (all_by_base p keys parts.1)

-- ---- the order
lower_through : (a b c : ℕ) → is_lower_base a b ≡ true → is_lower_base b c ≡ true → is_lower_base a c ≡ true
lower_through a b c x y = grind (arith, nat_tests)

lower_unless : (a b : ℕ) → nat_le (base_of a) (base_of b) ≡ false → is_lower_base b a ≡ true
lower_unless a b e = grind (arith, nat_tests)

with_key_in_order : (key : ℕ) (keys : List ℕ) → pairwise is_lower_base keys ≡ true → pairwise is_lower_base (with_key key keys) ≡ true
with_key_in_order key [] order = refl
with_key_in_order key (held ∷ keys) order =
    let parts = and_parts (list_all (is_lower_base held) keys) (pairwise is_lower_base keys) order in
    elim (cases_Bool (nat_le (base_of key) (base_of held))) [
      | inl before ↦ rw before (and_from (list_all (is_lower_base key) (held ∷ keys)) (pairwise is_lower_base (held ∷ keys))
          (and_from (is_lower_base key held) (list_all (is_lower_base key) keys) before
          (list_all_weaker (is_lower_base held) (is_lower_base key) (λ x e. lower_through key held x before e) keys parts.0)) order)
      | inr behind ↦ rw behind (and_from (list_all (is_lower_base held) (with_key key keys)) (pairwise is_lower_base (with_key key keys))
          (all_with_key (is_lower_base held) key keys (lower_unless key held behind) parts.0) (with_key_in_order key keys parts.1))
    ]

by_base_in_order : (keys : List ℕ) → pairwise is_lower_base (by_base keys) ≡ true
by_base_in_order [] = refl
by_base_in_order (key ∷ keys) = with_key_in_order key (by_base keys) (by_base_in_order keys)

-- ---- the same keys
any_with_key : (test : ℕ → Bool) (key : ℕ) (keys : List ℕ) → list_any test (with_key key keys) ≡ (test key || list_any test keys)
any_with_key test key [] = refl
any_with_key test key (held ∷ keys) = elim (cases_Bool (nat_le (base_of key) (base_of held))) [
  | inl before ↦ rw before refl
  | inr behind ↦ rw behind (ap (λ rest. test held || rest) (any_with_key test key keys) ∙ or_turned (test held) (test key) (list_any test keys))
]

any_by_base : (test : ℕ → Bool) (keys : List ℕ) → list_any test (by_base keys) ≡ list_any test keys
any_by_base test [] = refl
any_by_base test (key ∷ keys) = any_with_key test key (by_base keys) ∙ ap (λ rest. test key || rest) (any_by_base test keys)

pub stand_by_base : KeysStandByBase
stand_by_base keys = record { order = by_base_in_order keys; same = λ test. any_by_base test keys }
