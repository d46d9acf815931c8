-- The status of an answer, by the questions that its request is asked and by reasons to refuse it.
use Rattle.std.proofs.Common.{ℕ, ◌≡◌, ◌∙◌, ◌+◌, ◌==◌, ◌&&◌, ◌||◌, Bool, true, false, not, if◌then◌else◌, bit_and, bit_or, min, max, List, [], ◌∷◌, ◌++◌, length, map, filter, find, is_none, Some, Result, Ok, Err, ap, refl, sym, inl, inr, arith}
use Rattle.std.specs.Int.Digits.{AllBelowBase}
use Rattle.std.specs.List.{list_all, list_any}
use Rattle.std.proofs.lemmas.Bool.{cases_Bool, eqb-true, eq-eqb}
use Rattle.std.proofs.lemmas.Nat.Bits.{bit_at_and, bit_at_or, same_from_bits}
use Rattle.std.specs.Int.{bit_at}
use Rattle.mad_layout.specs.Bits.{field}
use Rattle.mad_layout.specs.MadStatus.{mad_status_code}
use Rattle.mad_layout.specs.declared.status.MadStatus.{MadStatus}
use Rattle.mad_layout.specs.declared.status.MadStatus.TheVariants.{BadVersion}
use Rattle.rmpp_core.proofs.ReplyLemmas.{reply_encoded, reply_fits}
use Rattle.subnet_model.specs.Configuration.{ConfigurationState}
use Rattle.subnet_model.specs.Configured.{IsConfigured}
use Rattle.subnet_model.specs.Delivery.{port_with_guid}
use Rattle.subnet_model.specs.declared.subnet_port.SubnetPort.{SubnetPort}
use Rattle.sa_model.specs.Outcome.{unless_status}
use Rattle.sa_model.specs.Refusals.{Question, first_refusal}
use Rattle.sa_model.specs.Selected.{asks}
use Rattle.sa_replies.specs.Answer.{Administration, Answered, after_rmpp, answer, answered_with, outcome, version_refused}
use Rattle.sa_replies.specs.OneReply.{asks_something}
use Rattle.sa_replies.specs.Reply.{no_rmpp, refusal_reply, reply_header, with_content}
use Rattle.sa_replies.specs.Request.{Request, has_versions, is_response, request_in}
use Rattle.sa_replies.specs.State.{IsStateOf}
use Rattle.sa_replies.specs.Success.{Success}
use Rattle.sa_replies.specs.Transfers.{on_rmpp, table_of}
use Rattle.sa_replies.proofs.OpenTableLemmas.{TableLow, outcome_low}
use Rattle.sa_replies.proofs.RefusalLemmas.{AreBytes, Ends, outcome_ends}
use Rattle.sa_replies.proofs.StatusLemmas.{IsCopied, code_low, content_is_data, first_status, is_copied, no_data, padded_number, reply_status}
use Rattle.sa_replies.specs.Reasons.{Reason, because, status_by}

-- ---- the status that a result is answered by
abbrev pub code_of : {X : Type 0} → Result X MadStatus → ℕ
code_of (Ok x) = 0
code_of (Err status) = mad_status_code status

abbrev pub reasons_in : List Question → List Reason
reasons_in questions = map (λ (question : Question). because question.is_so (mad_status_code question.status)) questions

-- by the first reason that holds, else this
abbrev pub else_by : List Reason → ℕ → ℕ
else_by [] last = last
else_by (reason ∷ reasons) last = if reason.holds then reason.status else else_by reasons last

pub code_by : {X : Type 0} (questions : List Question) (result : Result X MadStatus)
    → code_of (unless_status (first_refusal questions) result) ≡ else_by (reasons_in questions) (code_of result)
code_by [] result = refl
code_by (question ∷ questions) result = elim (cases_Bool question.is_so) [
  | inl so ↦ rw so refl
  | inr not_so ↦ rw not_so (code_by questions result)
]

pub else_none : (reasons : List Reason) → else_by reasons 0 ≡ status_by reasons
else_none [] = refl
else_none (reason ∷ reasons) = ap (λ (rest : ℕ). if reason.holds then reason.status else rest) (else_none reasons)

pub else_more : (reasons more : List Reason) → status_by (reasons ++ more) ≡ else_by reasons (status_by more)
else_more [] more = refl
else_more (reason ∷ reasons) more = ap (λ (rest : ℕ). if reason.holds then reason.status else rest) (else_more reasons more)

-- two reasons with one status
pub either : (a b : Bool) (status rest : ℕ) → (if a || b then status else rest) ≡ (if a then status else if b then status else rest)
either true b status rest = refl
either false b status rest = refl

-- ---- tests of lists
pub any_kept : {X : Type 0} (p keep : X → Bool) (xs : List X) → list_any p (filter keep xs) ≡ list_any (λ x. keep x && p x) xs
any_kept p keep [] = refl
any_kept p keep (x ∷ xs) = elim (cases_Bool (keep x)) [
  | inl here ↦ let rest = any_kept p keep xs in rw here (λ i. p x || rest i)
  | inr out ↦ rw out (any_kept p keep xs)
]

pub all_or_none : {X : Type 0} (p : X → Bool) (xs : List X) → list_all p xs ≡ not (list_any (λ x. not (p x)) xs)
all_or_none p [] = refl
all_or_none p (x ∷ xs) = elim (cases_Bool (p x)) [
  | inl passes ↦ rw passes (all_or_none p xs)
  | inr fails ↦ rw fails refl
]

pub none_found : {X : Type 0} (p : X → Bool) (xs : List X) → is_none (find p xs) ≡ not (list_any p xs)
none_found p [] = refl
none_found p (x ∷ xs) = elim (cases_Bool (p x)) [
  | inl passes ↦ rw passes refl
  | inr fails ↦ rw fails (none_found p xs)
]

pub and_any : {X : Type 0} (b : Bool) (p : X → Bool) (xs : List X) → (b && list_any p xs) ≡ list_any (λ x. b && p x) xs
and_any b p [] = and_false b
  where
    and_false : (a : Bool) → (a && false) ≡ false
    and_false true = refl
    and_false false = refl
and_any true p (x ∷ xs) = refl
and_any false p (x ∷ xs) = and_any false p xs

-- ---- which components are asked
joined_bits : (mask a b whole both : ℕ) → both ≡ min mask whole → whole ≡ max a b → min mask a ≡ a → min mask b ≡ b → both ≡ whole
joined_bits mask a b whole both one two left right = omega (arith, one, two, left, right)

pub both_asked : (mask a b whole : ℕ) → whole ≡ bit_or a b → asks mask a ≡ true → asks mask b ≡ true → asks mask whole ≡ true
both_asked mask a b whole joined first second =
    eq-eqb (bit_and mask whole) whole
    (same_from_bits (bit_and mask whole) whole (λ i.
    let both = bit_at_and mask whole i in
    let either_one = ap (λ (n : ℕ). bit_at n i) joined ∙ bit_at_or a b i in
    let left = sym (bit_at_and mask a i) ∙ ap (λ (n : ℕ). bit_at n i) (eqb-true (bit_and mask a) a first) in
    let right = sym (bit_at_and mask b i) ∙ ap (λ (n : ℕ). bit_at n i) (eqb-true (bit_and mask b) b second) in
    joined_bits (bit_at mask i) (bit_at a i) (bit_at b i) (bit_at whole i) (bit_at (bit_and mask whole) i) both either_one left right))

-- ---- a MAD's status
refusal_reads : (request : Request) (status : MadStatus) → IsCopied request → field (refusal_reply request status) 32 16 ≡ mad_status_code status
refusal_reads request status copied =
    let fits = reply_fits (reply_header request (mad_status_code status)) no_rmpp (with_content request []) (copied.header (mad_status_code status) (code_low status))
    (omega arith, (omega arith, (omega arith, (omega arith, (omega arith, (omega arith, (omega arith, tt)))))))
    (omega arith, (omega arith, (copied.mask, (padded_number [] no_data, tt)))) in
    sym (reply_encoded (reply_header request (mad_status_code status)) no_rmpp (with_content request []) fits).fields.1.1.1.1.0

abbrev pub status_of : List ℕ → ℕ
status_of mad = field mad 32 16

result_reads : (own : SubnetPort) (request : Request) (state : Administration) (result : Result Success MadStatus) → IsCopied request
    → Ends AreBytes result → Ends TableLow result → map status_of (answered_with own request state result).0 ≡ code_of result ∷ []
result_reads own request state (Err status) copied are low = ap (λ (n : ℕ). n ∷ []) (refusal_reads request status copied)
result_reads own request state (Ok (Success.one_reply bytes next)) copied are low = ap (λ (n : ℕ). n ∷ []) (reply_status request bytes copied are)
result_reads own request state (Ok (Success.whole_table offset bytes)) copied are low =
    ap (λ (n : ℕ). n ∷ []) (first_status request offset bytes copied low.0 low.1 low.2)

-- ---- a request that asks something: its version, else what it ends in
pub status_is : (configuration : ConfigurationState) (own : SubnetPort) (payload : List ℕ) (state : Administration) → IsConfigured configuration
    → port_with_guid configuration.ports own.guid ≡ Some own → IsStateOf configuration state → AllBelowBase 256 payload
    → asks_something payload ≡ true → map status_of (answer configuration.ports own payload state).0
    ≡ (if not (has_versions (request_in payload).header) then 4 else code_of (outcome configuration.ports own state.remembered (request_in payload))) ∷ []
status_is configuration own payload state configured found is below asks =
    by_case ((length payload == 256) && (field payload 8 8 == 3)) (has_versions (request_in payload).header)
    (bit_and (request_in payload).rmpp.flags 1 == 1) (is_response (request_in payload).header) ([], state) (version_refused (request_in payload), state)
    (after_rmpp own state (on_rmpp (request_in payload) (table_of own.guid state.transfers)))
    (answered_with own (request_in payload) state (outcome configuration.ports own state.remembered (request_in payload)))
    (code_of (outcome configuration.ports own state.remembered (request_in payload))) asks
    (λ no_response. rw no_response (ap (λ (n : ℕ). n ∷ []) (refusal_reads (request_in payload) BadVersion (is_copied payload no_response))))
    (λ no_response. result_reads own (request_in payload) state (outcome configuration.ports own state.remembered (request_in payload))
    (is_copied payload no_response) (outcome_ends configuration.ports own state.remembered (request_in payload) (content_is_data payload below))
    (outcome_low configuration own state.remembered (request_in payload) configured found is.remembered))
  where
    by_case : (ours versions active response : Bool) (none refused moved asked : Answered) (status : ℕ)
        → (ours && (not response && not (ours && (versions && active)))) ≡ true
        → (response ≡ false → map status_of refused.0 ≡ 4 ∷ []) → (response ≡ false → map status_of asked.0 ≡ status ∷ [])
        → map status_of (if ours then if not versions then refused else if active then moved else if response then none else asked else none).0
        ≡ (if not versions then 4 else status) ∷ []
    by_case false versions active response none refused moved asked status e first second = absurd (cc)
    by_case true versions active true none refused moved asked status e first second = absurd (cc)
    by_case true false active false none refused moved asked status e first second = first refl
    by_case true true true false none refused moved asked status e first second = absurd (cc)
    by_case true true false false none refused moved asked status e first second = second refl
