-- What is written over zeros at some places of a layout is there, and 0 is at the others.
use Rattle.std.proofs.Common.{◌≡◌, ℕ, ◌+◌, ◌*◌, ◌^◌, ◌<◌, ◌≤◌, Bool, true, false, ◌⊎◌, nat_le, if◌then◌else◌, List, [], ◌∷◌, length, map, filter, replicate, refl, sym, subst, ap, ◌∙◌, inl, inr, arith}
use Rattle.std.specs.List.{AllByRecursion}
use Rattle.std.proofs.lemmas.Bool.{and_from, and_parts, cases_Bool}
use Rattle.std.proofs.lemmas.List.{length-replicate}
use Rattle.mad_layout.specs.Bits.{field, put_field}
use Rattle.mad_layout.specs.Layout.{Field, Fits, at, is_apart, is_free, is_layout, put_all}
use Rattle.mad_layout.proofs.LayoutLemmas.{apart_parts, field-put_apart, field-put_same, field_narrow, field_zeros, first_of_layout, length-put_field, stays}
use Rattle.sa_records.specs.Asked.{Asked}
use Rattle.sa_records.specs.ServiceRecord.{service_data_asked}
use Rattle.sa_model.specs.Selected.{asks}
use Rattle.sa_replies.specs.Numbers.{IsAsAsked, NumbersAreAsAsked}
use Rattle.sa_records.specs.ServiceRecord.{numbers_asked}
use Rattle.sa_replies.proofs.StateLemmas.{numbers_long}

-- a row with what these bytes have at its place
abbrev held_at : List ℕ → Asked → Field
held_at numbers one = at one.off one.len (field numbers one.off one.len)

abbrev held : List ℕ → List Asked → List Field
held numbers rows = map (held_at numbers) rows

all_fit : (numbers : List ℕ) (rows : List Asked) → Fits (held numbers rows)
all_fit numbers [] = tt
all_fit numbers (one ∷ rows) = (field_narrow numbers one.off one.len, all_fit numbers rows)

free_of_some : (numbers : List ℕ) (test : Asked → Bool) (off len : ℕ) (rows : List Asked) → is_free off len (held numbers rows) ≡ true
    → is_free off len (held numbers (filter test rows)) ≡ true
free_of_some numbers test off len [] free = refl
free_of_some numbers test off len (one ∷ rows) free =
    let parts = and_parts (is_apart off len (held_at numbers one)) _ free in
    let rest = free_of_some numbers test off len rows parts.1 in
    elim (cases_Bool (test one)) [
      | inl passes ↦ rw passes (and_from (is_apart off len (held_at numbers one)) _ parts.0 rest)
      | inr fails ↦ rw fails rest
    ]

some_are_layout : (numbers : List ℕ) (test : Asked → Bool) (size : ℕ) (rows : List Asked) → is_layout size (held numbers rows) ≡ true
    → is_layout size (held numbers (filter test rows)) ≡ true
some_are_layout numbers test size [] layout = refl
some_are_layout numbers test size (one ∷ rows) layout =
    let parts = and_parts (nat_le (one.off + one.len) size) _ layout in
    let both = and_parts (is_free one.off one.len (held numbers rows)) (is_layout size (held numbers rows)) parts.1 in
    let rest = some_are_layout numbers test size rows both.1 in
    elim (cases_Bool (test one)) [
      | inl passes ↦
          rw passes
          (and_from (nat_le (one.off + one.len) size) _ parts.0
          (and_from (is_free one.off one.len (held numbers (filter test rows))) _ (free_of_some numbers test one.off one.len rows both.0) rest))
      | inr fails ↦ rw fails rest
    ]

-- ---- a place of the layout
abbrev IsWritten : List ℕ → (Asked → Bool) → List ℕ → List ℕ → Asked → Type 0
IsWritten numbers test before after one = field after one.off one.len ≡ (if test one then field numbers one.off one.len else field before one.off one.len)

if_same : {X : Type 0} (test : Bool) (x a b : X) → a ≡ b → (if test then x else a) ≡ (if test then x else b)
if_same true x a b e = refl
if_same false x a b e = e

-- what a field that is put leaves of those that are apart from it
pushed : (numbers : List ℕ) (test : Asked → Bool) (before after : List ℕ) (first : Asked) (v : ℕ) (rows : List Asked) → first.off + first.len ≤ 8 * length before
    → v < 2 ^ first.len → is_free first.off first.len (held numbers rows) ≡ true → is_layout (8 * length before) (held numbers rows) ≡ true
    → AllByRecursion (IsWritten numbers test (put_field before first.off first.len v) after) rows → AllByRecursion (IsWritten numbers test before after) rows
pushed numbers test before after first v [] within narrow free layout written = tt
pushed numbers test before after first v (one ∷ rows) within narrow free layout written =
    let frees = and_parts (is_apart first.off first.len (held_at numbers one)) _ free in
    let parts = first_of_layout (8 * length before) (held_at numbers one) (held numbers rows) layout in
    let apart = apart_parts first.off first.len (held_at numbers one) frees.0 in
    let stays_put = field-put_apart before first.off first.len v one.off one.len within parts.within narrow (turned first.off first.len one.off one.len apart) in
    (written.0 ∙ if_same (test one) (field numbers one.off one.len) _ _ stays_put, pushed numbers test before after first v rows within narrow frees.1 parts.rest written.1)
  where
    turned : (a b c d : ℕ) → (a + b ≤ c) ⊎ (c + d ≤ a) → (c + d ≤ a) ⊎ (a + b ≤ c)
    turned a b c d (inl h) = inr h
    turned a b c d (inr h) = inl h

written : (numbers : List ℕ) (test : Asked → Bool) (before : List ℕ) (rows : List Asked) → is_layout (8 * length before) (held numbers rows) ≡ true
    → AllByRecursion (IsWritten numbers test before (put_all before (held numbers (filter test rows)))) rows
written numbers test before [] layout = tt
written numbers test before (one ∷ rows) layout =
    let parts = first_of_layout (8 * length before) (held_at numbers one) (held numbers rows) layout in
    let v = field numbers one.off one.len in
    let narrow = field_narrow numbers one.off one.len in
    let next = put_field before one.off one.len v in
    let size = length-put_field before one.off one.len v in
    let free = free_of_some numbers test one.off one.len rows parts.free in
    let rest_layout : is_layout (8 * length next) (held numbers rows) ≡ true = ap (λ (n : ℕ). is_layout (8 * n) (held numbers rows)) size ∙ parts.rest in
    let some_next = some_are_layout numbers test (8 * length next) rows rest_layout in
    let some_before = some_are_layout numbers test (8 * length before) rows parts.rest in
    elim (cases_Bool (test one)) [
      | inl passes ↦
          let some : filter test (one ∷ rows) ≡ one ∷ filter test rows = rw passes refl in
          let here : IsWritten numbers test before (put_all next (held numbers (filter test rows))) one =
          rw passes
          (stays next (held numbers (filter test rows)) one.off one.len some_next (all_fit numbers (filter test rows)) (omega (arith, size, parts.within)) free
          ∙ field-put_same before one.off one.len v parts.within narrow) in
          let after : List Asked → Type 0 = λ chosen. AllByRecursion (IsWritten numbers test before (put_all before (held numbers chosen))) (one ∷ rows) in
          subst after (sym some) (
            here,
            pushed numbers test before (put_all next (held numbers (filter test rows))) one v rows parts.within narrow parts.free parts.rest
                (written numbers test next rows rest_layout),
          )
      | inr fails ↦
          let some : filter test (one ∷ rows) ≡ filter test rows = rw fails refl in
          let here : IsWritten numbers test before (put_all before (held numbers (filter test rows))) one =
          rw fails
          (stays before (held numbers (filter test rows)) one.off one.len some_before (all_fit numbers (filter test rows)) parts.within free) in
          let after : List Asked → Type 0 = λ chosen. AllByRecursion (IsWritten numbers test before (put_all before (held numbers chosen))) (one ∷ rows) in
          subst after (sym some) (here, written numbers test before rows parts.rest)
    ]

over_zeros : (mask : ℕ) (numbers : List ℕ) (rows : List Asked)
    → AllByRecursion (IsWritten numbers (λ one. asks mask one.bits) (replicate 64 0) (numbers_asked mask numbers)) rows → AllByRecursion (IsAsAsked mask numbers) rows
over_zeros mask numbers [] all = tt
over_zeros mask numbers (one ∷ rows) all =
    (all.0 ∙ if_same (asks mask one.bits) (field numbers one.off one.len) _ _ (field_zeros 64 one.off one.len), over_zeros mask numbers rows all.1)

pub numbers_are_as_asked : NumbersAreAsAsked
numbers_are_as_asked mask numbers = record {
  each = over_zeros mask numbers service_data_asked (written numbers (λ one. asks mask one.bits) (replicate 64 0) service_data_asked
      (ap (λ (n : ℕ). is_layout (8 * n) (held numbers service_data_asked)) (length-replicate {A = ℕ} 64 0) ∙ refl));
  all = refl;
  long = numbers_long mask numbers;
}
