-- Fields that are taken in one after the other, and all fields at once.
use Rattle.std.proofs.Common.{◌≡◌, ℕ, ◌==◌, Bool, true, false, if◌then◌else◌, bit_and, bit_or, List, [], ◌∷◌, map, replicate, Option, Some, None, Result, Ok, Err, refl, sym, ap, ◌∙◌, arith, inl, inr}
use Rattle.std.specs.Int.Bits.{and_zero_l, and_zero_r, or_zero_l, or_zero_r}
use Rattle.std.specs.Option.{ok_or}
use Rattle.std.proofs.lemmas.Bool.{cases_Bool, eqb-true, false≢true}
use Rattle.std.proofs.lemmas.Nat.{and_assoc, and_comm, and_or_apart, and_or_self, or_comm}
use Rattle.std.proofs.lemmas.Nat.Bits.{bit_at_or, same_from_bits}
use Rattle.mad_layout.specs.Bits.{put_field}
use Rattle.mad_layout.specs.Layout.{put_all}
use Rattle.mad_layout.specs.declared.sa_mad.SaMad.{SaMad}
use Rattle.step_results.specs.Steps.{◌>>=◌}
use Rattle.step_results.proofs.StepLemmas.{same_err}
use Rattle.sa_records.specs.declared.sa_attribute.SaAttribute.{SaAttribute}
use Rattle.script_lines.specs.Ask.{Named, asking, fields_in, mask_of, named_in}
use Rattle.script_lines.specs.Asking.{asked_in}
use Rattle.script_lines.specs.declared.script_cause.ScriptCause.{ScriptCause}
use Rattle.script_lines.specs.declared.script_cause.ScriptCause.TheVariants.{BadField}

-- ---- bits in common
-- what has no bit in common with two masks together has none with either of them
apart_second : (a b n : ℕ) → bit_and (bit_or a b) n ≡ 0 → bit_and b n ≡ 0
apart_second a b n none =
    ap (λ (x : ℕ). bit_and x n) (sym (and_or_self b a))
    ∙ and_assoc n (bit_or a b) b
    ∙ ap (λ (x : ℕ). bit_and (bit_or a b) x) (and_comm b n)
    ∙ sym (and_assoc b (bit_or a b) n)
    ∙ ap (λ (x : ℕ). bit_and x b) none
    ∙ and_zero_l b

apart_first : (a b n : ℕ) → bit_and (bit_or a b) n ≡ 0 → bit_and a n ≡ 0
apart_first a b n none = apart_second b a n (ap (λ (x : ℕ). bit_and x n) (or_comm b a) ∙ none)

apart_both : (a b n : ℕ) → bit_and a n ≡ 0 → bit_and b n ≡ 0 → bit_and (bit_or a b) n ≡ 0
apart_both a b n first second = and_or_apart n a b second ∙ first

or_three : (a b c : ℕ) → bit_or (bit_or a b) c ≡ bit_or a (bit_or b c)
or_three a b c = same_from_bits _ _ (λ i.
    let both = bit_at_or (bit_or a b) c i in
    let front = bit_at_or a b i in
    let all = bit_at_or a (bit_or b c) i in
    let back = bit_at_or b c i in
    omega arith)

is_none : (n : ℕ) → n ≡ 0 → (n == 0) ≡ true
is_none n e = ap (λ (m : ℕ). m == 0) e

-- the tests of three masks: each one that comes against those before it, and each against those behind it
tests_alike : (m b n : ℕ) → (bit_and m b == 0) ≡ true → (bit_and b n == 0) ≡ true → (bit_and (bit_or m b) n == 0) ≡ (bit_and m (bit_or b n) == 0)
tests_alike m b n free own = by (bit_and (bit_or m b) n == 0) refl (bit_and m (bit_or b n) == 0) refl
  where
    first : bit_and m b ≡ 0
    first = eqb-true (bit_and m b) 0 free

    second : bit_and b n ≡ 0
    second = eqb-true (bit_and b n) 0 own

    forth : bit_and (bit_or m b) n ≡ 0 → bit_and m (bit_or b n) ≡ 0
    forth none =
        and_comm m (bit_or b n)
        ∙ apart_both b n m (and_comm b m ∙ first) (and_comm n m ∙ apart_first m b n none)

    back : bit_and m (bit_or b n) ≡ 0 → bit_and (bit_or m b) n ≡ 0
    back none = apart_both m b n (and_comm m n ∙ apart_second b n m (and_comm (bit_or b n) m ∙ none)) second

    by : (x : Bool) → (bit_and (bit_or m b) n == 0) ≡ x → (y : Bool) → (bit_and m (bit_or b n) == 0) ≡ y
        → (bit_and (bit_or m b) n == 0) ≡ (bit_and m (bit_or b n) == 0)
    by true p true q = p ∙ sym q
    by false p false q = p ∙ sym q
    by true p false q = absurd (false≢true (sym q ∙ is_none _ (forth (eqb-true _ 0 p))))
    by false p true q = absurd (false≢true (sym p ∙ is_none _ (back (eqb-true _ 0 q))))

-- behind others that share no bit with what is asked by so far, this one shares some
taken_still : (m b n : ℕ) → (bit_and m b == 0) ≡ false → (bit_and m (bit_or b n) == 0) ≡ false
taken_still m b n taken = by (bit_and m (bit_or b n) == 0) refl
  where
    by : (x : Bool) → (bit_and m (bit_or b n) == 0) ≡ x → (bit_and m (bit_or b n) == 0) ≡ false
    by false p = p
    by true p =
        let none = apart_first b n m (and_comm (bit_or b n) m ∙ eqb-true _ 0 p) in
        absurd (false≢true (sym taken ∙ is_none _ (and_comm m b ∙ none)))

shared_later : (m b n : ℕ) → (bit_and b n == 0) ≡ false → (bit_and (bit_or m b) n == 0) ≡ false
shared_later m b n shared = by (bit_and (bit_or m b) n == 0) refl
  where
    by : (x : Bool) → (bit_and (bit_or m b) n == 0) ≡ x → (bit_and (bit_or m b) n == 0) ≡ false
    by false p = p
    by true p = absurd (false≢true (sym shared ∙ is_none _ (apart_second m b n (eqb-true _ 0 p))))

-- ---- one field after the other
abbrev pub mad_with : ℕ → List ℕ → SaMad
mad_with mask bytes = record { sm_key = 0; attribute_offset = 0; component_mask = mask; «data» = bytes }

abbrev pub with_field : ℕ → List ℕ → Option Named → Result (ℕ × List ℕ) ScriptCause
with_field mask bytes (Some one) =
    if bit_and mask one.bits == 0
    then Ok (bit_or mask one.bits, put_field bytes one.place.off one.place.len one.place.value)
    else Err BadField
with_field mask bytes None = Err BadField

unfoldable pub asked_from : SaAttribute → ℕ → List ℕ → List (List ℕ) → Result SaMad ScriptCause
asked_from kind mask bytes [] = Ok (mad_with mask bytes)
asked_from kind mask bytes (word ∷ rest) = with_field mask bytes (named_in kind word) >>= λ next. asked_from kind next.0 next.1 rest

-- all of them at once
abbrev together : ℕ → List ℕ → List Named → Result SaMad ScriptCause
together mask bytes named =
    if bit_and mask (mask_of named) == 0
    then Ok (mad_with (bit_or mask (mask_of named)) (put_all bytes (map (λ (one : Named). one.place) named)))
    else Err BadField

abbrev before : Named → Result (List Named) ScriptCause → Result (List Named) ScriptCause
before one others = others >>= λ rest. if bit_and one.bits (mask_of rest) == 0 then Ok (one ∷ rest) else Err BadField

only_bad : (kind : SaAttribute) (words : List (List ℕ)) (cause : ScriptCause) → fields_in kind words ≡ Err cause → cause ≡ BadField
unfolding fields_in
only_bad kind [] cause is = absurd cc
only_bad kind (word ∷ rest) cause is = by (named_in kind word) (fields_in kind rest) (λ e same. only_bad kind rest e same) is
  where
    one_more : (b : Bool) (all : List Named) → (if b then Ok all else Err BadField) ≡ Err cause → cause ≡ BadField
    one_more true all is = absurd cc
    one_more false all is = sym (same_err BadField cause is)

    by : (one : Option Named) (others : Result (List Named) ScriptCause) → ((e : ScriptCause) → others ≡ Err e → e ≡ BadField)
        → (ok_or one BadField >>= λ first. before first others) ≡ Err cause → cause ≡ BadField
    by None others bad is = sym (same_err BadField cause is)
    by (Some first) (Ok rest) bad is = one_more (bit_and first.bits (mask_of rest) == 0) (first ∷ rest) is
    by (Some first) (Err e) bad is = bad cause is

goes_in : (mask : ℕ) (bytes : List ℕ) (one : Named) (others : Result (List Named) ScriptCause) → (bit_and mask one.bits == 0) ≡ true
    → (others >>= together (bit_or mask one.bits) (put_field bytes one.place.off one.place.len one.place.value))
    ≡ (before one others >>= together mask bytes)
goes_in mask bytes one (Err e) free = refl
goes_in mask bytes one (Ok rest) free = elim (cases_Bool (bit_and one.bits (mask_of rest) == 0)) [
  | inl own ↦ rw (own, tests_alike mask one.bits (mask_of rest) free own, or_three mask one.bits (mask_of rest)) refl
  | inr shared ↦ rw (shared, shared_later mask one.bits (mask_of rest) shared) refl
]

stays_out : (mask : ℕ) (bytes : List ℕ) (one : Named) (others : Result (List Named) ScriptCause) → ((e : ScriptCause) → others ≡ Err e → e ≡ BadField)
    → (bit_and mask one.bits == 0) ≡ false → Err BadField ≡ (before one others >>= together mask bytes)
stays_out mask bytes one (Err e) bad taken = ap (λ (cause : ScriptCause). Err cause) (sym (bad e refl))
stays_out mask bytes one (Ok rest) bad taken = elim (cases_Bool (bit_and one.bits (mask_of rest) == 0)) [
  | inl own ↦ rw (own, taken_still mask one.bits (mask_of rest) taken) refl
  | inr shared ↦ rw shared refl
]

all_from : (kind : SaAttribute) (words : List (List ℕ)) (mask : ℕ) (bytes : List ℕ)
    → asked_from kind mask bytes words ≡ (fields_in kind words >>= together mask bytes)
unfolding asked_from fields_in
all_from kind [] mask bytes = rw (and_zero_r mask, or_zero_r mask) refl
all_from kind (word ∷ rest) mask bytes = by (named_in kind word) (λ m b. all_from kind rest m b)
  where
    by : (one : Option Named) → ((m : ℕ) (b : List ℕ) → asked_from kind m b rest ≡ (fields_in kind rest >>= together m b))
        → (with_field mask bytes one >>= λ next. asked_from kind next.0 next.1 rest)
        ≡ ((ok_or one BadField >>= λ first. before first (fields_in kind rest)) >>= together mask bytes)
    by None later = refl
    by (Some one) later = elim (cases_Bool (bit_and mask one.bits == 0)) [
      | inl free ↦ rw free (later _ _ ∙ goes_in mask bytes one (fields_in kind rest) free)
      | inr taken ↦ rw taken (stays_out mask bytes one (fields_in kind rest) (λ e same. only_bad kind rest e same) taken)
    ]

-- from nothing
pub all_asked : (kind : SaAttribute) (words : List (List ℕ)) → asked_from kind 0 (replicate 200 0) words ≡ asked_in kind words
unfolding asked_in
all_asked kind words = all_from kind words 0 (replicate 200 0) ∙ by (fields_in kind words)
  where
    by : (given : Result (List Named) ScriptCause) → (given >>= together 0 (replicate 200 0)) ≡ (given >>= λ named. Ok (asking named))
    by (Err e) = refl
    by (Ok named) = rw (and_zero_l (mask_of named), or_zero_l (mask_of named)) refl
