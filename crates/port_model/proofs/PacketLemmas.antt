-- A word of base 0 is an empty place, so no port holds a key of base 0.
use Rattle.std.proofs.Common.{◌≡◌, ◌≢◌, ℕ, ◌==◌, ap, refl, ◌∙◌, Bool, true, false, not, if◌then◌else◌, List, [], ◌∷◌, None, Some}
use Rattle.std.specs.List.{filter}
use Rattle.std.proofs.Math.Bool.{and-false}
use Rattle.std.proofs.lemmas.Bool.{eqb-true, eq-eqb}
use Rattle.std.proofs.lemmas.Map.Views.{any-filter_same}
use Rattle.pkey_rules.specs.KeyTable.{holds, same_base}
use Rattle.pkey_rules.specs.PKey.{base_of}
use Rattle.pkey_rules.specs.StoredKeys.{stored_keys}

-- a word that is no empty place is not a key of base 0
differs : (word key : ℕ) (b : Bool) → (word == key) ≡ b → (base_of word == 0) ≡ false → base_of key ≡ 0 → b ≡ false
differs word key false is some none = refl
differs word key true is some none = absurd (let same = eq-eqb (base_of word) 0 (ap base_of (eqb-true word key is) ∙ none) in cc)

by_word : (key word : ℕ) (words : List ℕ) (empty : Bool) → base_of key ≡ 0 → (base_of word == 0) ≡ empty
    → holds key (stored_keys words) ≡ false
    → holds key (if empty then stored_keys words else word ∷ filter (λ one. not (same_base word one)) (stored_keys words)) ≡ false
by_word key word words true none is later = later
by_word key word words false none is later =
    let kept = any-filter_same (λ one. one == key) (λ one. not (same_base word one)) (not (same_base word key))
    (λ one same. ap (λ (k : ℕ). not (same_base word k)) (eqb-true one key same)) (stored_keys words) in
    rw (differs word key (word == key) refl is none, kept, later) (and-false (not (same_base word key)))

no_key : (key : ℕ) (words : List ℕ) → base_of key ≡ 0 → holds key (stored_keys words) ≡ false
no_key key [] none = refl
no_key key (word ∷ words) none = by_word key word words (base_of word == 0) none refl (no_key key words none)

none_if : (key : ℕ) (b : Bool) → b ≡ false → None ≡ (if b then Some key else None)
none_if key false h = refl
none_if key true h = absurd (cc)

by_base : (key : ℕ) (words : List ℕ) (b : Bool) → (base_of key == 0) ≡ b → (base_of key ≢ 0 → ⊥)
    → None ≡ (if holds key (stored_keys words) then Some key else None)
by_base key words true is never = none_if key (holds key (stored_keys words)) (no_key key words (eqb-true (base_of key) 0 is))
by_base key words false is never = absurd (never (λ same. let there = eq-eqb (base_of key) 0 same in cc))

pub holds_no_base_0 : (key : ℕ) (words : List ℕ) → (base_of key ≢ 0 → ⊥)
    → None ≡ (if holds key (stored_keys words) then Some key else None)
holds_no_base_0 key words never = by_base key words (base_of key == 0) refl never
