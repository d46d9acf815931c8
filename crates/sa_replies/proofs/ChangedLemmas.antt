-- The partitions are as they were after all but joins and leaves.
use Rattle.std.proofs.Common.{◌≡◌, ℕ, false, not, ◌==◌, ◌&&◌, ◌||◌, List, [], ◌∷◌, Result, Ok, Err, refl, ap, ◌∙◌, inl, inr}
use Rattle.std.specs.List.{list_any}
use Rattle.std.proofs.lemmas.Bool.{cases_Bool, or_parts}
use Rattle.mad_layout.specs.Method.{method_code}
use Rattle.mad_layout.specs.declared.method.Method.TheVariants.{Get, Set, GetTable, Delete}
use Rattle.mad_layout.specs.declared.status.MadStatus.{MadStatus}
use Rattle.mad_layout.specs.declared.status.MadStatus.TheVariants.{AttributeNotSupported, MethodNotSupported, NoRecords, NoResources}
use Rattle.sa_records.specs.declared.sa_attribute.SaAttribute.TheVariants as sa_attribute
use Rattle.subnet_model.specs.declared.subnet_port.SubnetPort.{SubnetPort}
use Rattle.sa_model.specs.Groups.{PartitionGroups}
use Rattle.sa_model.specs.Receivers.{changed_numbers}
use Rattle.sa_model.proofs.ReceiverLemmas.{nothing_changes_alone}
use Rattle.sa_records.specs.declared.service_record.ServiceRecord.{ServiceRecord}
use Rattle.sa_records.specs.ServiceRecord.{service_in}
use Rattle.sa_model.specs.ServiceChange.{Deed, has_id, has_room}
use Rattle.sa_model.specs.Refusals.{first_refusal, refused_if}
use Rattle.sa_model.specs.Visible.{SaState}
use Rattle.sa_replies.specs.Answer.{Administration, answer, delete_or_refused, get_outcome, outcome, query_of, set_or_refused, table_outcome, answered_with}
use Rattle.sa_replies.specs.Changed.{OthersChangeNoReceivers, RefusedChangeNoReceivers, joins_or_leaves}
use Rattle.sa_replies.specs.Laws.{is_of_transfer}
use Rattle.sa_replies.specs.Request.{Request, request_in, is_about}
use Rattle.sa_replies.specs.ServiceRequests.{after_change, change_asked, delete_outcome, owner_questions, service_asked, service_deleted, service_set, services_at, set_outcome, shown_bytes}
use Rattle.sa_replies.specs.Success.{Success}
use Rattle.sa_replies.proofs.RefusalLemmas.{Ends, IsGot, IsTable, by_request, cases_if, ends_if, ends_more, ends_unless, get_ends, refused_change_nothing, requests_leave_the_rest, table_ends}

-- ---- a request that is none for groups leaves the partitions
abbrev LeavesPartitions : SaState → Success → Type 0
LeavesPartitions state (Success.one_reply bytes next) = next.partitions ≡ state.partitions
LeavesPartitions state (Success.whole_table offset bytes) = Unit {0}

service_leaves : (own : SubnetPort) (state : SaState) (mask : ℕ) (asked : ServiceRecord) → Ends (LeavesPartitions state) (service_set own state mask asked)
service_leaves own state mask asked =
    let service = service_asked mask asked in
    let change = change_asked own asked (Deed.sets service) in
    ends_unless (LeavesPartitions state) (first_refusal (owner_questions own mask asked)) (set_outcome own state asked service change)
    (ends_unless (LeavesPartitions state) (first_refusal (refused_if (not (has_room service.service_id (services_at change state.services))) NoResources ∷ []))
    (Ok (Success.one_reply (shown_bytes own asked service) (after_change state change))) refl)

deletion_leaves : (own : SubnetPort) (state : SaState) (mask : ℕ) (asked : ServiceRecord) (content : List ℕ) → Ends (LeavesPartitions state) (service_deleted own state mask asked content)
deletion_leaves own state mask asked content =
    let change = change_asked own asked (Deed.deletes asked.service_id) in
    ends_unless (LeavesPartitions state) (first_refusal (owner_questions own mask asked)) (delete_outcome state asked change content)
    (ends_unless (LeavesPartitions state) (first_refusal (refused_if (not (list_any (has_id asked.service_id) (services_at change state.services))) NoRecords ∷ []))
    (Ok (Success.one_reply content (after_change state change))) refl)

got_leaves : (state : SaState) (success : Success) → IsGot state success → LeavesPartitions state success
got_leaves state (Success.one_reply bytes next) is = ap (λ (s : SaState). s.partitions) is.1
got_leaves state (Success.whole_table offset bytes) is = absurd is

table_leaves : (state : SaState) (success : Success) → IsTable success → LeavesPartitions state success
table_leaves state (Success.one_reply bytes next) is = absurd is
table_leaves state (Success.whole_table offset bytes) is = tt

-- where the request is for groups, it is no Set and no Delete
abbrev pub IsNone : Request → Type 0
IsNone request =
    (((request.header.method == method_code Set) && (is_about sa_attribute.McMemberRecord request))
    || ((request.header.method == method_code Delete) && (is_about sa_attribute.McMemberRecord request))) ≡ false

outcome_leaves : (ports : List SubnetPort) (own : SubnetPort) (state : SaState) (request : Request) → IsNone request
    → Ends (LeavesPartitions state) (outcome ports own state request)
outcome_leaves ports own state request none =
    let P = LeavesPartitions state in
    let halves = or_parts ((request.header.method == method_code Set) && (is_about sa_attribute.McMemberRecord request)) _ none in
    ends_if P (request.header.method == method_code Get) (get_outcome ports own state (query_of request)) _
    (ends_more (IsGot state) P (got_leaves state) (get_outcome ports own state (query_of request)) (get_ends ports own state (query_of request)))
    (ends_if P (request.header.method == method_code GetTable) (table_outcome ports own state (query_of request)) _
    (ends_more IsTable P (table_leaves state) (table_outcome ports own state (query_of request)) (table_ends ports own state (query_of request)))
    (cases_if (Ends P) (request.header.method == method_code Set) (set_or_refused ports own state request) _
    (λ set.
    let other : (is_about sa_attribute.McMemberRecord request) ≡ false = rw set at halves.0 in
    rw other
    (ends_if P (is_about sa_attribute.ServiceRecord request) (service_set own state request.component_mask (service_in request.content)) (Err AttributeNotSupported)
    (service_leaves own state request.component_mask (service_in request.content)) tt))
    (λ no_set. cases_if (Ends P) (request.header.method == method_code Delete) (delete_or_refused ports own state request) (Err MethodNotSupported)
    (λ deletion.
    let other : (is_about sa_attribute.McMemberRecord request) ≡ false = rw deletion at halves.1 in
    rw other
    (ends_if P (is_about sa_attribute.ServiceRecord request) (service_deleted own state request.component_mask (service_in request.content) request.content) (Err AttributeNotSupported)
    (deletion_leaves own state request.component_mask (service_in request.content) request.content) tt))
    (λ no_deletion. tt))))

answered_leaves : (own : SubnetPort) (request : Request) (state : Administration) (result : Result Success MadStatus) → Ends (LeavesPartitions state.remembered) result
    → (answered_with own request state result).1.remembered.partitions ≡ state.remembered.partitions
answered_leaves own request state (Err status) leaves = refl
answered_leaves own request state (Ok (Success.one_reply bytes next)) leaves = leaves
answered_leaves own request state (Ok (Success.whole_table offset bytes)) leaves = refl

pub others_leave : (ports : List SubnetPort) (own : SubnetPort) (request : Request) (state : Administration) → IsNone request
    → (answered_with own request state (outcome ports own state.remembered request)).1.remembered.partitions ≡ state.remembered.partitions
others_leave ports own request state none =
    answered_leaves own request state (outcome ports own state.remembered request) (outcome_leaves ports own state.remembered request none)

partitions_same : (ports : List SubnetPort) (own : SubnetPort) (payload : List ℕ) (state : Administration) → joins_or_leaves payload ≡ false
    → (answer ports own payload state).1.remembered.partitions ≡ state.remembered.partitions
partitions_same ports own payload state none = elim (cases_Bool (is_of_transfer payload)) [
  | inl of_transfer ↦ ap (λ (s : SaState). s.partitions) ((requests_leave_the_rest ports own payload state).by_transfer of_transfer)
  | inr apart ↦
      by_request ports own payload state (λ answered. answered.1.remembered.partitions ≡ state.remembered.partitions) apart (λ mads are. refl)
      (λ asks. others_leave ports own (request_in payload) state (rw apart at none))
]

pub others_change_no_receivers : OthersChangeNoReceivers
others_change_no_receivers ports own payload state none =
    ap (λ (after : List PartitionGroups). changed_numbers ports state.remembered.partitions after) (partitions_same ports own payload state none)
    ∙ nothing_changes_alone ports state.remembered.partitions

pub refused_change_no_receivers : RefusedChangeNoReceivers
refused_change_no_receivers ports own payload state below apart can refused =
    ap (λ (next : Administration). changed_numbers ports state.remembered.partitions next.remembered.partitions)
    (refused_change_nothing ports own payload state below apart can refused)
    ∙ nothing_changes_alone ports state.remembered.partitions
