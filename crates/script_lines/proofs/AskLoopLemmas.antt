-- The loop over the fields of a line: what is left asks from here as all of them ask from nothing.
use Rattle.std.proofs.Common.{◌≡◌, ℕ, ◌==◌, true, false, bit_and, bit_or, List, [], ◌∷◌, ◌++◌, replicate, Option, Some, None, Result, Ok, Err, refl, sym, ap, ◌∙◌, length, ◌+◌, ◌-◌, ◌≤◌, lit≤, arith}
use Rattle.std.proofs.Common.{inl, inr}
use Rattle.std.specs.Option.{ok_or}
use Rattle.std.specs.Result.{result_ok}
use Rattle.std.proofs.lemmas.Bool.{cases_Bool, eqb-true}
use Rattle.std.proofs.lemmas.List.{length-replicate, replicate-append-replicate}
use Rattle.std.proofs.lemmas.Option.{none-some, same_Some}
use Rattle.mad_layout.specs.Bits.{put_field}
use Rattle.mad_layout.specs.declared.sa_mad.SaMad.{SaMad}
use Rattle.step_results.proofs.StepLemmas.{same_err, same_ok}
use Rattle.step_results.specs.Steps.{◌>>=◌}
use Rattle.sa_records.specs.declared.sa_attribute.SaAttribute.{SaAttribute}
use Rattle.sa_records.specs.declared.sa_attribute.SaAttribute.TheVariants as attribute
use Rattle.sa_records.specs.declared.sa_record.SaRecord.{SaRecord}
use Rattle.sa_records.specs.SaRecord.{RecordFits, attribute_of, blank_size, record_bytes}
use Rattle.script_lines.specs.Ask.{Named, named_in}
use Rattle.script_lines.specs.Asking.{AsksToo, IsPut, asked_in, data_with}
use Rattle.script_lines.specs.declared.script_cause.ScriptCause.{ScriptCause}
use Rattle.script_lines.specs.declared.script_cause.ScriptCause.TheVariants.{BadField}
use Rattle.script_lines.proofs.MaskLemmas.{all_asked, asked_from, mad_with, with_field}

pub record IsAsked (kind : SaAttribute) (mask : ℕ) (asked : SaRecord) (left : List (List ℕ)) (all : Result SaMad ScriptCause) : Type 0 where
  pub same_kind : attribute_of asked ≡ kind
  pub fits : RecordFits asked
  pub same : asked_from kind mask (data_with asked) left ≡ all

-- before the first
zeros_behind : (size : ℕ) (bytes : List ℕ) → size ≤ 200 → bytes ≡ replicate size 0 → bytes ++ replicate (200 - length bytes) 0 ≡ replicate 200 0
zeros_behind size bytes within zeros =
    let long = length-replicate {A = ℕ} size 0 in
    let same : length bytes ≡ size = ap (λ (some : List ℕ). length some) zeros ∙ long in
    let rest : size + (200 - length bytes) ≡ 200 = omega (arith, same) in
    ap (λ (some : List ℕ). some ++ replicate (200 - length bytes) 0) zeros
    ∙ replicate-append-replicate size (200 - length bytes) 0 ∙ ap (λ (n : ℕ). replicate n 0) rest

blank_fits : (kind : SaAttribute) → blank_size kind ≤ 200
blank_fits attribute.NodeRecord = lit≤ tt
blank_fits attribute.PathRecord = lit≤ tt
blank_fits attribute.McMemberRecord = lit≤ tt
blank_fits attribute.ServiceRecord = lit≤ tt

pub begins : (kind : SaAttribute) (blank : SaRecord) (words left : List (List ℕ)) → attribute_of blank ≡ kind → RecordFits blank
    → record_bytes blank ≡ replicate (blank_size kind) 0 → left ≡ words → IsAsked kind 0 blank left (asked_in kind words)
begins kind blank words left same fits zeros all = record {
  same_kind = same;
  fits = fits;
  same =
      ap (λ (bytes : List ℕ). asked_from kind 0 bytes left) (zeros_behind (blank_size kind) (record_bytes blank) (blank_fits kind) zeros)
      ∙ ap (asked_from kind 0 (replicate 200 0)) all
      ∙ all_asked kind words;
}

-- ---- what the code's steps report
some_left : (n : ℕ) → (n ≡ 0 → ⊥) → (n == 0) ≡ false
some_left n some = elim (cases_Bool (n == 0)) [
  | inl none ↦ absurd (some (eqb-true n 0 none))
  | inr left ↦ left
]

pub some_reported : {X E : Type 0} (o : Option X) (e : E) (r : Result X E) (x : X) → r ≡ ok_or o e → r ≡ Ok x → o ≡ Some x
some_reported None e r x is was = absurd (cc (sym is ∙ was))
some_reported (Some y) e r x is was = ap (λ z. Some z) (same_ok y x (sym is ∙ was))

pub none_reported : {X E : Type 0} (o : Option X) (e : E) (r : Result X E) (d : E) → r ≡ ok_or o e → r ≡ Err d → (o ≡ None) × (d ≡ e)
none_reported None e r d is was = (refl, same_err d e (sym was ∙ is))
none_reported (Some y) e r d is was = absurd (cc (sym is ∙ was))

pub ok_reported : {X E : Type 0} (r : Result X E) (x : X) → Some x ≡ result_ok r → r ≡ Ok x
ok_reported (Ok y) x is = ap (λ z. Ok z) (sym (same_Some x y is))
ok_reported (Err e) x is = absurd (none-some x (sym is))

-- ---- one word more
next_of : (kind : SaAttribute) (mask : ℕ) (asked : SaRecord) (word : List ℕ) (left rest : List (List ℕ)) (all : Result SaMad ScriptCause) → left ≡ word ∷ rest
    → IsAsked kind mask asked left all
    → (with_field mask (data_with asked) (named_in (attribute_of asked) word) >>= λ next. asked_from kind next.0 next.1 rest) ≡ all
unfolding asked_from
next_of kind mask asked word left rest all first before =
    ap (λ (some : SaAttribute). with_field mask (data_with asked) (named_in some word) >>= λ next. asked_from kind next.0 next.1 rest) before.same_kind
    ∙ ap (asked_from kind mask (data_with asked)) (sym first)
    ∙ before.same

-- that names a field
is_named : (one : Option Named) (old new : SaRecord) (reported : Option ℕ) (bits : ℕ) → AsksToo one old new reported → reported ≡ Some bits
    → (named : Named) × (one ≡ Some named) × (named.bits ≡ bits) × IsPut old new named
is_named None old new reported bits asks is = absurd (none-some bits (sym asks.bits ∙ is))
is_named (Some named) old new reported bits asks is = (named, refl, same_Some named.bits bits (sym asks.bits ∙ is), asks.set)

pub goes_on : (kind : SaAttribute) (mask bits : ℕ) (old new : SaRecord) (reported : Option ℕ) (word : List ℕ) (left rest : List (List ℕ)) (all : Result SaMad ScriptCause)
    → left ≡ word ∷ rest → IsAsked kind mask old left all → AsksToo (named_in (attribute_of old) word) old new reported → reported ≡ Some bits
    → bit_and mask bits ≡ 0 → IsAsked kind (bit_or mask bits) new rest all
goes_on kind mask bits old new reported word left rest all first before asks is free =
    let named = is_named (named_in (attribute_of old) word) old new reported bits asks is in
    let one = named.0 in
    let own : (bit_and mask one.bits == 0) ≡ true = ap (λ (n : ℕ). bit_and mask n == 0) named.2 ∙ ap (λ (n : ℕ). n == 0) free in
    let taken : with_field mask (data_with old) (named_in (attribute_of old) word) ≡ Ok (bit_or mask bits, data_with new) =
    ap (with_field mask (data_with old)) named.1
    ∙ rw own (ap (λ (n : ℕ). Ok (bit_or mask n, put_field (data_with old) one.place.off one.place.len one.place.value)) named.2
    ∙ ap (λ (bytes : List ℕ). Ok (bit_or mask bits, bytes)) (sym named.3)) in
    record {
      same_kind = asks.kind ∙ before.same_kind;
      fits = asks.fits;
      same = sym (ap (λ (given : Result (ℕ × List ℕ) ScriptCause). given >>= λ next. asked_from kind next.0 next.1 rest) taken) ∙ next_of kind mask old word left rest all first before;
    }

-- that names one twice
pub named_twice : (kind : SaAttribute) (mask bits : ℕ) (old new : SaRecord) (reported : Option ℕ) (word : List ℕ) (left rest : List (List ℕ)) (all : Result SaMad ScriptCause)
    → left ≡ word ∷ rest → IsAsked kind mask old left all → AsksToo (named_in (attribute_of old) word) old new reported → reported ≡ Some bits
    → (bit_and mask bits ≡ 0 → ⊥) → all ≡ Err BadField
named_twice kind mask bits old new reported word left rest all first before asks is taken =
    let named = is_named (named_in (attribute_of old) word) old new reported bits asks is in
    let one = named.0 in
    let own : (bit_and mask one.bits == 0) ≡ false = ap (λ (n : ℕ). bit_and mask n == 0) named.2 ∙ some_left (bit_and mask bits) taken in
    let refused : with_field mask (data_with old) (named_in (attribute_of old) word) ≡ Err BadField =
    ap (with_field mask (data_with old)) named.1 ∙ rw own refl in
    sym (next_of kind mask old word left rest all first before)
    ∙ ap (λ (given : Result (ℕ × List ℕ) ScriptCause). given >>= λ next. asked_from kind next.0 next.1 rest) refused

-- that names none
pub names_none : (kind : SaAttribute) (mask : ℕ) (old new : SaRecord) (reported : Option ℕ) (word : List ℕ) (left rest : List (List ℕ)) (all : Result SaMad ScriptCause)
    → left ≡ word ∷ rest → IsAsked kind mask old left all → AsksToo (named_in (attribute_of old) word) old new reported → reported ≡ None
    → all ≡ Err BadField
names_none kind mask old new reported word left rest all first before asks none =
    let refused : with_field mask (data_with old) (named_in (attribute_of old) word) ≡ Err BadField =
    by (named_in (attribute_of old) word) asks in
    sym (next_of kind mask old word left rest all first before)
    ∙ ap (λ (given : Result (ℕ × List ℕ) ScriptCause). given >>= λ next. asked_from kind next.0 next.1 rest) refused
  where
    by : (one : Option Named) → AsksToo one old new reported → with_field mask (data_with old) one ≡ Err BadField
    by None asks = refl
    by (Some named) asks = absurd (none-some named.bits (sym none ∙ asks.bits))

-- after the last
pub ends : (kind : SaAttribute) (mask : ℕ) (asked : SaRecord) (left : List (List ℕ)) (all : Result SaMad ScriptCause) → left ≡ []
    → IsAsked kind mask asked left all → Ok (mad_with mask (data_with asked)) ≡ all
unfolding asked_from
ends kind mask asked left all none before = ap (asked_from kind mask (data_with asked)) (sym none) ∙ before.same
