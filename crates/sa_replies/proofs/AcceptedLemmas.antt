-- A Set or a Delete of an MCMemberRecord that is not refused: what it is answered by, and that none of the questions refused it.
use Rattle.std.proofs.Common.{ℕ, true, false, ◌==◌, not, List, [], ◌∷◌, Option, Some, None, Result, Ok, Err, ◌≡◌, refl, sym, subst}
use Rattle.std.proofs.lemmas.Bool.{both_ways, and_from, and_parts, eqb-true}
use Rattle.mad_layout.specs.Bits.{field}
use Rattle.mad_layout.specs.Method.{method_code}
use Rattle.mad_layout.specs.declared.method.Method.TheVariants.{Set, Delete}
use Rattle.mad_layout.specs.declared.status.MadStatus.{MadStatus}
use Rattle.sa_records.specs.declared.sa_attribute.SaAttribute.TheVariants as sa_attribute
use Rattle.sa_records.specs.declared.mc_member_record.McMemberRecord.{McMemberRecord}
use Rattle.sa_records.specs.McMemberRecord.{group_in}
use Rattle.subnet_model.specs.declared.subnet_port.SubnetPort.{SubnetPort}
use Rattle.sa_model.specs.Leaving.{left}
use Rattle.sa_model.specs.Outcome.{unless_status}
use Rattle.sa_model.specs.Refusals.{first_refusal}
use Rattle.sa_model.specs.Visible.{SaState}
use Rattle.sa_replies.specs.Answer.{Administration, answer, answered_with, outcome}
use Rattle.sa_replies.specs.Changed.{asks_for_group}
use Rattle.sa_replies.specs.Joins.{after_join, join_asked, join_done, join_outcome, join_questions, join_refusal, leave_asked, leave_outcome, leave_questions}
use Rattle.sa_replies.specs.Laws.{are_refusals, asks_by}
use Rattle.sa_replies.specs.Reply.{refusal_reply}
use Rattle.sa_replies.specs.Request.{Request, is_about, request_in}
use Rattle.sa_replies.specs.Success.{Success}
use Rattle.sa_replies.proofs.RefusalLemmas.{Ends, IsOneReply, by_method, ends_unless}
use Rattle.sa_replies.proofs.StatusLemmas.{IsCopied, is_copied, refusal_status}

pub record IsReplied (result : Result Success MadStatus) (next : SaState) : Type 0 where
  pub bytes : List ℕ
  pub is : result ≡ Ok (Success.one_reply bytes next)

replied : (own : SubnetPort) (request : Request) (state : Administration) (result : Result Success MadStatus) → IsCopied request → Ends IsOneReply result
    → are_refusals (answered_with own request state result).0 ≡ false → IsReplied result (answered_with own request state result).1.remembered
replied own request state (Err status) copied ends answered =
    absurd (both_ways (are_refusals (refusal_reply request status ∷ [])) answered
    (and_from (not (field (refusal_reply request status) 32 16 == 0)) true (refusal_status request status copied) refl))
replied own request state (Ok (Success.one_reply bytes next)) copied ends answered = record { bytes = bytes; is = refl }
replied own request state (Ok (Success.whole_table offset bytes)) copied ends answered = absurd ends

-- ---- what a join and a leave end in
join_is_one : (ports : List SubnetPort) (own : SubnetPort) (s : SaState) (mask : ℕ) (asked : McMemberRecord) → Ends IsOneReply (join_outcome ports own s mask asked)
join_is_one ports own s mask asked =
    ends_unless IsOneReply (first_refusal (join_questions own mask asked)) _
    (ends_unless IsOneReply (join_refusal ports own mask asked s.partitions) (Ok (join_done own (join_asked own mask asked) (after_join ports (join_asked own mask asked) s))) tt)

leave_is_one : (ports : List SubnetPort) (own : SubnetPort) (s : SaState) (mask : ℕ) (asked : McMemberRecord) (content : List ℕ)
    → Ends IsOneReply (leave_outcome ports own s mask asked content)
leave_is_one ports own s mask asked content =
    ends_unless IsOneReply (first_refusal (leave_questions own s mask asked))
    (Ok (Success.one_reply content (record s { partitions = left ports (leave_asked own mask asked) s.partitions }))) tt

pub outcome_of_join : (ports : List SubnetPort) (own : SubnetPort) (s : SaState) (request : Request) → request.header.method ≡ method_code Set
    → request.header.attribute_id ≡ 56 → outcome ports own s request ≡ join_outcome ports own s request.component_mask (group_in request.content)
outcome_of_join ports own s request method attribute = rw (method, attribute) refl

pub outcome_of_leave : (ports : List SubnetPort) (own : SubnetPort) (s : SaState) (request : Request) → request.header.method ≡ method_code Delete
    → request.header.attribute_id ≡ 56
    → outcome ports own s request ≡ leave_outcome ports own s request.component_mask (group_in request.content) request.content
outcome_of_leave ports own s request method attribute = rw (method, attribute) refl

-- ---- one that is not refused
abbrev Replies : SubnetPort → Request → Administration → Result Success MadStatus → Result Success MadStatus → Type 0
Replies own request state wanted result =
    are_refusals (answered_with own request state result).0 ≡ false → IsReplied wanted (answered_with own request state result).1.remembered

pub join_replied : (ports : List SubnetPort) (own : SubnetPort) (payload : List ℕ) (state : Administration) → asks_for_group Set payload ≡ true
    → are_refusals (answer ports own payload state).0 ≡ false
    → IsReplied (join_outcome ports own state.remembered (request_in payload).component_mask (group_in (request_in payload).content))
    (answer ports own payload state).1.remembered
join_replied ports own payload state asks =
    let request = request_in payload in
    let wanted = join_outcome ports own state.remembered request.component_mask (group_in request.content) in
    let parts = and_parts (asks_by Set payload) (is_about sa_attribute.McMemberRecord request) asks in
    by_method ports own payload state Set (λ answered. are_refusals answered.0 ≡ false → IsReplied wanted answered.1.remembered) parts.0
    (λ mads refused answered. absurd (both_ways (are_refusals mads) answered refused))
    (λ request_is method.
    subst (Replies own request state wanted)
    (sym (outcome_of_join ports own state.remembered request method (eqb-true request.header.attribute_id 56 parts.1)))
    (replied own request state wanted (is_copied payload request_is) (join_is_one ports own state.remembered request.component_mask (group_in request.content))))

pub leave_replied : (ports : List SubnetPort) (own : SubnetPort) (payload : List ℕ) (state : Administration) → asks_for_group Delete payload ≡ true
    → are_refusals (answer ports own payload state).0 ≡ false
    → IsReplied (leave_outcome ports own state.remembered (request_in payload).component_mask (group_in (request_in payload).content) (request_in payload).content)
    (answer ports own payload state).1.remembered
leave_replied ports own payload state asks =
    let request = request_in payload in
    let wanted = leave_outcome ports own state.remembered request.component_mask (group_in request.content) request.content in
    let parts = and_parts (asks_by Delete payload) (is_about sa_attribute.McMemberRecord request) asks in
    by_method ports own payload state Delete (λ answered. are_refusals answered.0 ≡ false → IsReplied wanted answered.1.remembered) parts.0
    (λ mads refused answered. absurd (both_ways (are_refusals mads) answered refused))
    (λ request_is method.
    subst (Replies own request state wanted)
    (sym (outcome_of_leave ports own state.remembered request method (eqb-true request.header.attribute_id 56 parts.1)))
    (replied own request state wanted (is_copied payload request_is)
    (leave_is_one ports own state.remembered request.component_mask (group_in request.content) request.content)))

-- ---- then no question refuses it, and this is the state after it
pub not_refused : (r : Option MadStatus) (result : Result Success MadStatus) (success : Success) → unless_status r result ≡ Ok success
    → (r ≡ None) × (result ≡ Ok success)
not_refused None result success ok = (refl, ok)
not_refused (Some status) result success ok = absurd (cc)

pub record IsAcceptedJoin (ports : List SubnetPort) (own : SubnetPort) (mask : ℕ) (asked : McMemberRecord) (s next : SaState) : Type 0 where
  pub asked_well : first_refusal (join_questions own mask asked) ≡ None
  pub allowed : join_refusal ports own mask asked s.partitions ≡ None
  pub next_is : next ≡ after_join ports (join_asked own mask asked) s

pub join_accepted : (ports : List SubnetPort) (own : SubnetPort) (mask : ℕ) (asked : McMemberRecord) (s next : SaState)
    → IsReplied (join_outcome ports own s mask asked) next → IsAcceptedJoin ports own mask asked s next
join_accepted ports own mask asked s next replied =
    let done = join_done own (join_asked own mask asked) (after_join ports (join_asked own mask asked) s) in
    let first = not_refused (first_refusal (join_questions own mask asked)) (unless_status (join_refusal ports own mask asked s.partitions) (Ok done))
    (Success.one_reply replied.bytes next) replied.is in
    let second = not_refused (join_refusal ports own mask asked s.partitions) (Ok done) (Success.one_reply replied.bytes next) first.1 in
    let same : done ≡ Success.one_reply replied.bytes next = let ok = second.1 in cc in
    record { asked_well = first.0; allowed = second.0; next_is = let ok = same in cc }

pub record IsAcceptedLeave (ports : List SubnetPort) (own : SubnetPort) (mask : ℕ) (asked : McMemberRecord) (s next : SaState) : Type 0 where
  pub asked_well : first_refusal (leave_questions own s mask asked) ≡ None
  pub next_is : next ≡ record s { partitions = left ports (leave_asked own mask asked) s.partitions }

pub leave_accepted : (ports : List SubnetPort) (own : SubnetPort) (mask : ℕ) (asked : McMemberRecord) (content : List ℕ) (s next : SaState)
    → IsReplied (leave_outcome ports own s mask asked content) next → IsAcceptedLeave ports own mask asked s next
leave_accepted ports own mask asked content s next replied =
    let done = Success.one_reply content (record s { partitions = left ports (leave_asked own mask asked) s.partitions }) in
    let first = not_refused (first_refusal (leave_questions own s mask asked)) (Ok done) (Success.one_reply replied.bytes next) replied.is in
    let same : done ≡ Success.one_reply replied.bytes next = let ok = first.1 in cc in
    record { asked_well = first.0; next_is = let ok = same in cc }
