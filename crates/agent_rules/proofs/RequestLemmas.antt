-- What a reply is: the request with its fields set.
use Rattle.std.proofs.Common.{◌≡◌, ℕ, ◌+◌, ◌*◌, ◌%◌, ◌^◌, ◌<◌, Bool, true, false, if◌then◌else◌, Ok, Err, List, [], ◌∷◌, length, refl, sym, ap, arith}
use Rattle.std.proofs.lemmas.Bool.{and_parts, and_from}
use Rattle.mad_layout.specs.Bits.{number, field}
use Rattle.mad_layout.specs.Layout.{at, is_apart, is_free, is_layout, Sets}
use Rattle.mad_layout.specs.MadStatus.{mad_status_code}
use Rattle.mad_layout.specs.declared.status.MadStatus.{MadStatus}
use Rattle.mad_layout.proofs.LayoutLemmas.{sets_put_all}
use Rattle.agent_rules.specs.Request.{is_set, reply_method, reply_to, KeepsRest}

pub method_fits : (b : Bool) (n : ℕ) → (if b then 129 else 128 + n % 128) < 2 ^ 8
method_fits true n = omega arith
method_fits false n = omega arith

-- a reply is the request with its fields set
pub attribute_sets : (smp attribute : List ℕ) → length smp ≡ 256 → number attribute < 2 ^ 512
    → Sets smp (reply_to smp (Ok attribute)) (at 24 8 (reply_method smp) ∷ at 33 15 0 ∷ at 512 512 (number attribute) ∷ [])
unfolding reply_to
attribute_sets smp attribute long fits =
    sets_put_all (at 24 8 (reply_method smp) ∷ at 33 15 0 ∷ at 512 512 (number attribute) ∷ []) smp
    (ap (λ (n : ℕ). is_layout (8 * n) (at 24 8 (reply_method smp) ∷ at 33 15 0 ∷ at 512 512 (number attribute) ∷ [])) long)
    (method_fits (is_set smp) (field smp 24 8), (omega arith, (fits, tt)))

pub refusal_sets : (smp : List ℕ) (status : MadStatus) → length smp ≡ 256 → mad_status_code status < 2 ^ 15
    → Sets smp (reply_to smp (Err status)) (at 24 8 (reply_method smp) ∷ at 33 15 (mad_status_code status) ∷ [])
unfolding reply_to
refusal_sets smp status long fits =
    sets_put_all (at 24 8 (reply_method smp) ∷ at 33 15 (mad_status_code status) ∷ []) smp
    (ap (λ (n : ℕ). is_layout (8 * n) (at 24 8 (reply_method smp) ∷ at 33 15 (mad_status_code status) ∷ [])) long)
    (method_fits (is_set smp) (field smp 24 8), (fits, tt))

pub attribute_keeps : (smp attribute : List ℕ) → length smp ≡ 256 → number attribute < 2 ^ 512 → KeepsRest smp (reply_to smp (Ok attribute))
attribute_keeps smp attribute long fits = λ off len within free.
    (attribute_sets smp attribute long fits).others off len (omega arith) free

free_of_two : (off len : ℕ) → is_free off len (at 24 8 0 ∷ at 33 15 0 ∷ at 512 512 0 ∷ []) ≡ true
    → is_free off len (at 24 8 0 ∷ at 33 15 0 ∷ []) ≡ true
free_of_two off len free =
    let a = and_parts (is_apart off len (at 24 8 0)) (is_free off len (at 33 15 0 ∷ at 512 512 0 ∷ [])) free in
    let b = and_parts (is_apart off len (at 33 15 0)) (is_free off len (at 512 512 0 ∷ [])) a.1 in
    and_from (is_apart off len (at 24 8 0)) (is_free off len (at 33 15 0 ∷ [])) a.0 (and_from (is_apart off len (at 33 15 0)) true b.0 refl)

pub refusal_keeps : (smp : List ℕ) (status : MadStatus) → length smp ≡ 256 → mad_status_code status < 2 ^ 15
    → KeepsRest smp (reply_to smp (Err status))
refusal_keeps smp status long fits = λ off len within free.
    (refusal_sets smp status long fits).others off len (omega arith) (free_of_two off len free)

pub attribute_status : (smp attribute : List ℕ) → length smp ≡ 256 → number attribute < 2 ^ 512 → field (reply_to smp (Ok attribute)) 33 15 ≡ 0
attribute_status smp attribute long fits = sym (attribute_sets smp attribute long fits).fields.1.0

pub refusal_status : (smp : List ℕ) (status : MadStatus) → length smp ≡ 256 → mad_status_code status < 2 ^ 15
    → field (reply_to smp (Err status)) 33 15 ≡ mad_status_code status
refusal_status smp status long fits = sym (refusal_sets smp status long fits).fields.1.0

pub attribute_method : (smp attribute : List ℕ) → length smp ≡ 256 → number attribute < 2 ^ 512
    → field (reply_to smp (Ok attribute)) 24 8 ≡ reply_method smp
attribute_method smp attribute long fits = sym (attribute_sets smp attribute long fits).fields.0

pub refusal_method : (smp : List ℕ) (status : MadStatus) → length smp ≡ 256 → mad_status_code status < 2 ^ 15
    → field (reply_to smp (Err status)) 24 8 ≡ reply_method smp
refusal_method smp status long fits = sym (refusal_sets smp status long fits).fields.0

pub refusal_data : (smp : List ℕ) (status : MadStatus) → length smp ≡ 256 → mad_status_code status < 2 ^ 15
    → field (reply_to smp (Err status)) 512 512 ≡ field smp 512 512
refusal_data smp status long fits = (refusal_sets smp status long fits).others 512 512 (omega arith) refl
