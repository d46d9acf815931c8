-- A service that is set is there after the answer, and of one that is deleted none.
use Rattle.std.proofs.Common.{ℕ, true, false, ◌==◌, not, List, [], ◌∷◌, filter, Option, Some, None, Result, Ok, Err, if◌then◌else◌}
use Rattle.std.proofs.Common.{◌≡◌, ◌∙◌, ap, refl, sym, subst}
use Rattle.std.specs.List.{list_any, flat_map}
use Rattle.std.proofs.lemmas.Bool.{both_ways, and_from, and_parts, eqb-true}
use Rattle.std.proofs.lemmas.List.{append-nil}
use Rattle.mad_layout.specs.Bits.{field}
use Rattle.mad_layout.specs.Method.{method_code}
use Rattle.mad_layout.specs.declared.method.Method.TheVariants.{Set, Delete}
use Rattle.mad_layout.specs.declared.status.MadStatus.{MadStatus}
use Rattle.mad_layout.specs.declared.status.MadStatus.TheVariants.{AttributeNotSupported, NoResources, NoRecords}
use Rattle.sa_records.specs.declared.sa_attribute.SaAttribute.TheVariants as sa_attribute
use Rattle.subnet_model.specs.declared.subnet_port.SubnetPort.{SubnetPort}
use Rattle.sa_model.specs.Services.{PortServices}
use Rattle.sa_model.specs.ServiceChange.{Deed, has_id, has_room}
use Rattle.sa_model.specs.ServiceLaws.{is_of}
use Rattle.sa_model.proofs.DeedLemmas.{set_services_are_there, deleted_services_are_gone}
use Rattle.sa_model.specs.Outcome.{unless_status}
use Rattle.sa_model.specs.Refusals.{refused_if, first_refusal}
use Rattle.sa_model.specs.Visible.{SaState}
use Rattle.sa_replies.specs.Answer.{Administration, outcome, answered_with}
use Rattle.sa_replies.specs.Joins.{join_outcome, leave_outcome}
use Rattle.sa_replies.specs.Laws.{asks_by, are_refusals, base_wanted, IsServiceSet, IsServiceDeleted, ServicesSetAreThere, ServicesDeletedAreGone}
use Rattle.sa_replies.specs.Reply.{refusal_reply}
use Rattle.sa_replies.specs.Request.{Request, request_in, is_about}
use Rattle.sa_records.specs.McMemberRecord.{group_in}
use Rattle.sa_records.specs.ServiceRecord.{service_in}
use Rattle.sa_replies.specs.ServiceRequests.{owner_questions, service_asked, change_asked, services_at, shown_bytes, set_outcome, service_set, delete_outcome, service_deleted, after_change}
use Rattle.sa_replies.specs.Success.{Success}
use Rattle.sa_replies.proofs.AlikeLemmas.{none_so, unless_not}
use Rattle.sa_replies.proofs.RefusalLemmas.{Ends, ends_by, by_method}
use Rattle.sa_replies.proofs.StatusLemmas.{IsCopied, is_copied, refusal_status}

-- ---- a request ends in a state of which this holds, by one reply
abbrev ReplyLeaves : (SaState → Type 0) → Success → Type 0
ReplyLeaves P (Success.one_reply bytes next) = P next
ReplyLeaves P (Success.whole_table offset bytes) = ⊥

unless_so : (P : Success → Type 0) (refused : Option MadStatus) (result : Result Success MadStatus) → (refused ≡ None → Ends P result)
    → Ends P (unless_status refused result)
unless_so P None result ends = ends refl
unless_so P (Some status) result ends = tt

-- what is answered by a status 0 is not refused
reported_leaves : (P : SaState → Type 0) (own : SubnetPort) (request : Request) (state : Administration) (result : Result Success MadStatus) → IsCopied request
    → Ends (ReplyLeaves P) result → are_refusals (answered_with own request state result).0 ≡ false → P (answered_with own request state result).1.remembered
reported_leaves P own request state (Err status) copied ends answered =
    let refused : are_refusals (refusal_reply request status ∷ []) ≡ true =
    and_from (not (field (refusal_reply request status) 32 16 == 0)) true (refusal_status request status copied) refl in
    absurd (both_ways (are_refusals (refusal_reply request status ∷ [])) answered refused)
reported_leaves P own request state (Ok (Success.one_reply bytes next)) copied ends answered = ends
reported_leaves P own request state (Ok (Success.whole_table offset bytes)) copied ends answered = absurd ends

-- ---- a Set
service_there : (own : SubnetPort) (state : SaState) (request : Request) (place : PortServices)
    → filter (is_of own.guid (base_wanted request)) state.services ≡ place ∷ []
    → Ends (ReplyLeaves (IsServiceSet own request state)) (service_set own state request.component_mask (service_in request.content))
service_there own state request place one =
    let asked = service_in request.content in
    let service = service_asked request.component_mask asked in
    let change = change_asked own asked (Deed.sets service) in
    let P = ReplyLeaves (IsServiceSet own request state) in
    let questions = refused_if (not (has_room service.service_id (services_at change state.services))) NoResources ∷ [] in
    unless_so P (first_refusal (owner_questions own request.component_mask asked)) (set_outcome own state asked service change)
    (λ owner. unless_so P (first_refusal questions) (Ok (Success.one_reply (shown_bytes own asked service) (after_change state change)))
    (λ e.
    let free : has_room service.service_id (services_at change state.services) ≡ true =
    unless_not (has_room service.service_id (services_at change state.services)) (none_so 0 questions e) in
    let its : services_at change state.services ≡ place.services = ap (flat_map (λ found. found.services)) one ∙ append-nil place.services in
    let room : has_room service.service_id place.services ≡ true = ap (has_room service.service_id) (sym its) ∙ free in
    record { services = set_services_are_there state.services own.guid (base_wanted request) place service one room; groups = refl }))

-- what a Set and a Delete end in, by attribute
abbrev set_ended : ℕ → List SubnetPort → SubnetPort → SaState → Request → Result Success MadStatus
set_ended attribute ports own state request =
    if attribute == 56 then join_outcome ports own state request.component_mask (group_in request.content)
    else if attribute == 49 then service_set own state request.component_mask (service_in request.content)
    else Err AttributeNotSupported

abbrev delete_ended : ℕ → List SubnetPort → SubnetPort → SaState → Request → Result Success MadStatus
delete_ended attribute ports own state request =
    if attribute == 56 then leave_outcome ports own state request.component_mask (group_in request.content) request.content
    else if attribute == 49 then service_deleted own state request.component_mask (service_in request.content) request.content
    else Err AttributeNotSupported

pub services_set_are_there : ServicesSetAreThere
services_set_are_there ports own payload state place asks one =
    let request = request_in payload in
    let s = state.remembered in
    let parts = and_parts (asks_by Set payload) (is_about sa_attribute.ServiceRecord request) asks in
    let attribute : request.header.attribute_id ≡ 49 = eqb-true request.header.attribute_id 49 parts.1 in
    by_method ports own payload state Set (λ answered. are_refusals answered.0 ≡ false → IsServiceSet own request s answered.1.remembered) parts.0
    (λ mads refused answered. absurd (both_ways (are_refusals mads) answered refused))
    (λ request_is method. reported_leaves (IsServiceSet own request s) own request state (outcome ports own s request) (is_copied payload request_is)
    (ends_by (ReplyLeaves (IsServiceSet own request s)) (method_code Set) ports own s request method
    (subst (λ (n : ℕ). Ends (ReplyLeaves (IsServiceSet own request s)) (set_ended n ports own s request)) (sym attribute)
    (service_there own s request place one))))

-- ---- a Delete
none_there : (own : SubnetPort) (state : SaState) (request : Request)
    → Ends (ReplyLeaves (IsServiceDeleted own request state)) (service_deleted own state request.component_mask (service_in request.content) request.content)
none_there own state request =
    let asked = service_in request.content in
    let change = change_asked own asked (Deed.deletes asked.service_id) in
    let P = ReplyLeaves (IsServiceDeleted own request state) in
    let questions = refused_if (not (list_any (has_id asked.service_id) (services_at change state.services))) NoRecords ∷ [] in
    unless_so P (first_refusal (owner_questions own request.component_mask asked)) (delete_outcome state asked change request.content)
    (λ owner. unless_so P (first_refusal questions) (Ok (Success.one_reply request.content (after_change state change)))
    (λ e. record { services = deleted_services_are_gone state.services own.guid (base_wanted request) asked.service_id; groups = refl }))

pub services_deleted_are_gone : ServicesDeletedAreGone
services_deleted_are_gone ports own payload state asks =
    let request = request_in payload in
    let s = state.remembered in
    let parts = and_parts (asks_by Delete payload) (is_about sa_attribute.ServiceRecord request) asks in
    let attribute : request.header.attribute_id ≡ 49 = eqb-true request.header.attribute_id 49 parts.1 in
    by_method ports own payload state Delete (λ answered. are_refusals answered.0 ≡ false → IsServiceDeleted own request s answered.1.remembered) parts.0
    (λ mads refused answered. absurd (both_ways (are_refusals mads) answered refused))
    (λ request_is method. reported_leaves (IsServiceDeleted own request s) own request state (outcome ports own s request) (is_copied payload request_is)
    (ends_by (ReplyLeaves (IsServiceDeleted own request s)) (method_code Delete) ports own s request method
    (subst (λ (n : ℕ). Ends (ReplyLeaves (IsServiceDeleted own request s)) (delete_ended n ports own s request)) (sym attribute) (none_there own s request))))
