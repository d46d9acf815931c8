-- Fields that the mask names are the same in two requests, so what is compared by them is the same.
use Rattle.std.proofs.Common.{ℕ, zero, suc, ◌≡◌, ◌∙◌, ◌==◌, ◌||◌, Bool, true, false, not, if◌then◌else◌, bit_and, List, [], ◌∷◌, ap, refl, sym}
use Rattle.std.proofs.lemmas.Bool.{and_parts, eqb-true, eq-eqb}
use Rattle.std.proofs.lemmas.Nat.{and_assoc}
use Rattle.std.specs.Int.Bits.{and_self}
use Rattle.mad_layout.specs.Bits.{field}
use Rattle.sa_records.specs.Asked.{Asked}
use Rattle.sa_records.specs.Component.{Component, is_selected, on, passes}
use Rattle.sa_model.specs.Selected.{asks}
use Rattle.sa_replies.specs.Named.{agree_on, agree_where_named}

-- ---- what names some bits names each of them
pub asks_part : (mask whole bits : ℕ) → bit_and whole bits ≡ bits → asks mask whole ≡ true → asks mask bits ≡ true
asks_part mask whole bits within asked =
    eq-eqb (bit_and mask bits) bits
    (ap (bit_and mask) (sym within)
    ∙ (sym (and_assoc bits mask whole) ∙ (ap (λ (n : ℕ). bit_and n bits) (eqb-true (bit_and mask whole) whole asked) ∙ within)))

pub asks_more : (mask some bits : ℕ) → asks (bit_and mask some) bits ≡ true → asks mask bits ≡ true
asks_more mask some bits asked =
    let known : bit_and mask (bit_and some bits) ≡ bits = sym (and_assoc bits mask some) ∙ eqb-true (bit_and (bit_and mask some) bits) bits asked in
    eq-eqb (bit_and mask bits) bits
    (ap (bit_and mask) (sym known)
    ∙ (sym (and_assoc (bit_and some bits) mask mask) ∙ (ap (λ (n : ℕ). bit_and n (bit_and some bits)) (and_self mask) ∙ known)))

-- ---- a field that is named
abbrev pub Agrees : ℕ → List ℕ → List ℕ → Asked → Type 0
Agrees mask x y one = asks mask one.bits ≡ true → field x one.off one.len ≡ field y one.off one.len

pub agrees : (mask : ℕ) (x y : List ℕ) (one : Asked) → agree_on mask x y one ≡ true → Agrees mask x y one
agrees mask x y one same named =
    let its : (field x one.off one.len == field y one.off one.len) ≡ true = rw named at same in
    eqb-true (field x one.off one.len) (field y one.off one.len) its

abbrev pub AgreesAt : ℕ → List ℕ → List ℕ → ℕ → List Asked → Type 0
AgreesAt mask x y n [] = Unit {0}
AgreesAt mask x y zero (one ∷ fields) = Agrees mask x y one
AgreesAt mask x y (suc n) (one ∷ fields) = AgreesAt mask x y n fields

pub agrees_at : (mask : ℕ) (x y : List ℕ) (n : ℕ) (fields : List Asked) → agree_where_named fields mask x y ≡ true → AgreesAt mask x y n fields
agrees_at mask x y n [] all = tt
agrees_at mask x y zero (one ∷ fields) all = agrees mask x y one (and_parts (agree_on mask x y one) (agree_where_named fields mask x y) all).0
agrees_at mask x y (suc n) (one ∷ fields) all = agrees_at mask x y n fields (and_parts (agree_on mask x y one) (agree_where_named fields mask x y) all).1

-- ---- a test that is looked at only if some bits are asked
pub only_then : {X : Type 0} (test : Bool) (a b : X) → (test ≡ true → a ≡ b) → (rest : X) → (if test then a else rest) ≡ (if test then b else rest)
only_then true a b same rest = same refl
only_then false a b same rest = refl

pub or_then : (test a b : Bool) → (test ≡ true → a ≡ b) → (not test || a) ≡ (not test || b)
or_then true a b same = same refl
or_then false a b same = refl

-- ---- components
abbrev pub SameComponents : ℕ → List Component → List Component → Type 0
SameComponents mask [] [] = Unit {0}
SameComponents mask [] (y ∷ ys) = ⊥
SameComponents mask (x ∷ xs) [] = ⊥
SameComponents mask (x ∷ xs) (y ∷ ys) = (passes mask x ≡ passes mask y) × SameComponents mask xs ys

pub selected_same : (mask : ℕ) (xs ys : List Component) → SameComponents mask xs ys → is_selected mask xs ≡ is_selected mask ys
selected_same mask [] [] same = refl
selected_same mask [] (y ∷ ys) same = absurd same
selected_same mask (x ∷ xs) [] same = absurd same
selected_same mask (x ∷ xs) (y ∷ ys) same = rw (same.0, selected_same mask xs ys same.1) refl

pub passes_same : (mask bits : ℕ) (a b : Bool) → (asks mask bits ≡ true → a ≡ b) → passes mask (on bits a) ≡ passes mask (on bits b)
passes_same mask bits a b same = or_then (asks mask bits) a b same
