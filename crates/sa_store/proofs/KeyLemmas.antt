-- A key takes its place by its base.
use Rattle.std.proofs.Common.{◌≡◌, ℕ, suc, ◌+◌, List, [], ◌∷◌, not, nat_le, refl, ap, arith, inl, inr, ◌<◌, ◌==◌, ◌&&◌, ◌||◌, Bool, true, false, sym, ◌∙◌}
use Rattle.std.specs.List.{insert, prefix_len}
use Rattle.std.proofs.lemmas.Bool.{cases_Bool, and_parts, eqb-true, le-leb}
use Rattle.pkey_rules.specs.PKey.{base_of, is_full, key_of, matches}
use Rattle.sa_model.specs.KeyOrder.{with_key}
use Rattle.pkey_rules.specs.KeyTable.{accepts, has_base}
use Rattle.subnet_model.specs.declared.subnet_port.SubnetPort.{SubnetPort}
use Rattle.sa_model.specs.Members.{is_in}

pub inserted_by_base : (keys : List ℕ) (key : ℕ)
    → insert keys (prefix_len (λ held. not (nat_le (base_of key) (base_of held))) keys) key ≡ with_key key keys
inserted_by_base [] key = refl
inserted_by_base (first ∷ rest) key = elim (cases_Bool (nat_le (base_of key) (base_of first))) [
  | inl before ↦ rw before refl
  | inr behind ↦
      let n = prefix_len (λ held. not (nat_le (base_of key) (base_of held))) rest in
      let e : 1 + n ≡ suc n = omega arith in
      rw behind (rw e (ap (λ (keys : List ℕ). first ∷ keys) (inserted_by_base rest key)))
]

-- ---- who is in the partition of a base
low_base : (base : ℕ) → base < 32768 → base_of (key_of base true) ≡ base
low_base base low = omega (arith, low)

one_matches : (base held : ℕ) → base < 32768 → matches held (key_of base true) ≡ ((base_of held == base) && not (base == 0))
one_matches base held low = elim (cases_Bool (base_of held == base)) [
  | inl same ↦
      let here : base_of held ≡ base = eqb-true (base_of held) base same in
      let full : is_full (key_of base true) ≡ true = le-leb 32768 (base + 32768) (omega arith) in
      let own = low_base base low in
      rw (own, same, here, full) (by (not (base == 0)) (is_full held))
  | inr other ↦ let own = low_base base low in rw (own, other) refl
]
  where
    by : (a b : Bool) → a && (b || true) ≡ a
    by true true = refl
    by true false = refl
    by false b = refl

both_or : (a b c : Bool) → (a && c) || (b && c) ≡ (a || b) && c
both_or true true true = refl
both_or true true false = refl
both_or true false true = refl
both_or true false false = refl
both_or false b c = refl

any_matches : (base : ℕ) (keys : List ℕ) → base < 32768 → accepts (key_of base true) keys ≡ (has_base base keys && not (base == 0))
any_matches base [] low = refl
any_matches base (key ∷ keys) low =
    (λ i. one_matches base key low i || any_matches base keys low i) ∙ both_or (base_of key == base) (has_base base keys) (not (base == 0))

turned : (a b : Bool) → a && b ≡ b && a
turned true true = refl
turned true false = refl
turned false true = refl
turned false false = refl

pub in_base : (own : SubnetPort) (base : ℕ) → base < 32768 → is_in own base ≡ (not (base == 0) && has_base base own.keys)
in_base own base low = any_matches base own.keys low ∙ turned (has_base base own.keys) (not (base == 0))

pub holds_base : (own : SubnetPort) (base : ℕ) → base < 32768 → is_in own base ≡ true → has_base base own.keys ≡ true
holds_base own base low within = (and_parts (not (base == 0)) (has_base base own.keys) (sym (in_base own base low) ∙ within)).1
