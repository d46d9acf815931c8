-- What an answer leaves: what was remembered, or that after one join, leave, Set or Delete of its requester, or another table of its own.
use Rattle.std.proofs.Common.{ℕ, Bool, true, false, ◌==◌, ◌&&◌, not, List, [], ◌∷◌, Option, Some, None, Result, Ok, Err, length, if◌then◌else◌, bit_and}
use Rattle.std.specs.List.{list_any}
use Rattle.std.proofs.Common.{◌≡◌, refl, inl, inr}
use Rattle.std.proofs.lemmas.Bool.{cases_Bool}
use Rattle.mad_layout.specs.Bits.{field}
use Rattle.mad_layout.specs.Method.{method_code}
use Rattle.mad_layout.specs.declared.method.Method.TheVariants.{Get, Set, GetTable, Delete}
use Rattle.mad_layout.specs.declared.status.MadStatus.{MadStatus}
use Rattle.mad_layout.specs.declared.status.MadStatus.TheVariants.{MethodNotSupported, AttributeNotSupported, NoResources, NoRecords}
use Rattle.rmpp_core.specs.Segments.{Transfer}
use Rattle.sa_records.specs.declared.mc_member_record.McMemberRecord.{McMemberRecord}
use Rattle.sa_records.specs.declared.service_record.ServiceRecord.{ServiceRecord}
use Rattle.sa_records.specs.declared.sa_attribute.SaAttribute.TheVariants as sa_attribute
use Rattle.subnet_model.specs.declared.subnet_port.SubnetPort.{SubnetPort}
use Rattle.sa_model.specs.Joining.{Join, joined}
use Rattle.sa_model.specs.Leaving.{Leave, left}
use Rattle.sa_model.specs.Services.{Service}
use Rattle.sa_model.specs.ServiceChange.{Deed, ServiceChange, has_id, has_room, services_changed}
use Rattle.sa_model.specs.Visible.{SaState}
use Rattle.sa_model.specs.Shown.{Entry}
use Rattle.sa_model.specs.Selected.{Query}
use Rattle.sa_model.specs.Refusals.{refused_if, first_refusal}
use Rattle.sa_model.specs.Outcome.{unless_status, got, table}
use Rattle.sa_replies.specs.Request.{Request, request_in, is_response, has_versions, is_about}
use Rattle.sa_records.specs.McMemberRecord.{group_in}
use Rattle.sa_records.specs.ServiceRecord.{service_in}
use Rattle.sa_replies.specs.Transfers.{with_table, table_of, on_rmpp}
use Rattle.sa_replies.specs.Success.{Success}
use Rattle.sa_replies.specs.Joins.{join_asked, leave_asked, join_questions, join_refusal, join_done, join_outcome, after_join, leave_questions, leave_outcome}
use Rattle.sa_replies.specs.ServiceRequests.{owner_questions, service_asked, change_asked, services_at, shown_bytes, set_outcome, service_set, delete_outcome, service_deleted, after_change}
use Rattle.sa_replies.specs.Answer.{Administration, query_of, one_record, all_records, get_outcome, table_outcome, set_or_refused, delete_or_refused, outcome, answered_with, version_refused, answer_to, answer}

-- ---- a request leaves what is so, if it is not refused
abbrev Leaves : (SaState → Type 0) → Result Success MadStatus → Type 0
Leaves P (Err status) = Unit {0}
Leaves P (Ok (Success.one_reply bytes next)) = P next
Leaves P (Ok (Success.whole_table offset bytes)) = Unit {0}

leaves_if : (P : SaState → Type 0) (test : Bool) (a b : Result Success MadStatus) → Leaves P a → Leaves P b → Leaves P (if test then a else b)
leaves_if P true a b first second = first
leaves_if P false a b first second = second

leaves_unless_refused : (P : SaState → Type 0) (refused : Option MadStatus) (result : Result Success MadStatus) → Leaves P result
    → Leaves P (unless_status refused result)
leaves_unless_refused P None result leaves = leaves
leaves_unless_refused P (Some status) result leaves = tt

-- what is so of the state, and of that after what its requester may do, where joins and changes of services are such
pub record KeptBy (ports : List SubnetPort) (own : SubnetPort) (state : SaState) (J : Join → Type 0) (C : ServiceChange → Type 0) (P : SaState → Type 0) : Type 0 where
  pub same : P state
  pub joins : (join : Join) → join.port ≡ own.guid → J join → P (record state { partitions = joined ports join state.partitions })
  pub leaves : (leave : Leave) → leave.port ≡ own.guid → P (record state { partitions = left ports leave state.partitions })
  pub changes : (change : ServiceChange) → change.port ≡ own.guid → C change → P (record state { services = services_changed state.services change })

-- so are those that a request asks for
pub record AsksFor (own : SubnetPort) (request : Request) (J : Join → Type 0) (C : ServiceChange → Type 0) : Type 0 where
  pub join : J (join_asked own request.component_mask (group_in request.content))
  pub set : C (change_asked own (service_in request.content) (Deed.sets (service_asked request.component_mask (service_in request.content))))
  pub deletion : C (change_asked own (service_in request.content) (Deed.deletes (service_in request.content).service_id))

-- whatever they are
pub record Kept (ports : List SubnetPort) (own : SubnetPort) (state : SaState) (P : SaState → Type 0) : Type 0 where
  pub same : P state
  pub joins : (join : Join) → join.port ≡ own.guid → P (record state { partitions = joined ports join state.partitions })
  pub leaves : (leave : Leave) → leave.port ≡ own.guid → P (record state { partitions = left ports leave state.partitions })
  pub changes : (change : ServiceChange) → change.port ≡ own.guid → P (record state { services = services_changed state.services change })

any_join : Join → Type 0
any_join join = Unit {0}

any_change : ServiceChange → Type 0
any_change change = Unit {0}

kept_by_any : (ports : List SubnetPort) (own : SubnetPort) (state : SaState) (P : SaState → Type 0) → Kept ports own state P
    → KeptBy ports own state any_join any_change P
kept_by_any ports own state P kept = record {
  same = kept.same;
  joins = λ join e any. kept.joins join e;
  leaves = kept.leaves;
  changes = λ change e any. kept.changes change e;
}

asks_for_any : (own : SubnetPort) (request : Request) → AsksFor own request any_join any_change
unfolding any_join any_change
asks_for_any own request = record { join = tt; set = tt; deletion = tt }

one_leaves : (P : SaState → Type 0) (state : SaState) (result : Result Entry MadStatus) → P state → Leaves P (one_record state result)
one_leaves P state (Ok entry) same = same
one_leaves P state (Err status) same = tt

all_leave : (P : SaState → Type 0) (query : Query) (result : Result (List Entry) MadStatus) → Leaves P (all_records query result)
all_leave P query (Ok entries) = tt
all_leave P query (Err status) = tt

get_leaves : (P : SaState → Type 0) (ports : List SubnetPort) (own : SubnetPort) (state : SaState) (query : Option Query) → P state
    → Leaves P (get_outcome ports own state query)
get_leaves P ports own state (Some query) same = one_leaves P state (got ports own state query) same
get_leaves P ports own state None same = tt

table_leaves : (P : SaState → Type 0) (ports : List SubnetPort) (own : SubnetPort) (state : SaState) (query : Option Query)
    → Leaves P (table_outcome ports own state query)
table_leaves P ports own state (Some query) = all_leave P query (table ports own state query)
table_leaves P ports own state None = tt

join_leaves : (P : SaState → Type 0) (ports : List SubnetPort) (own : SubnetPort) (state : SaState) (mask : ℕ) (asked : McMemberRecord)
    → P (after_join ports (join_asked own mask asked) state) → Leaves P (join_outcome ports own state mask asked)
join_leaves P ports own state mask asked after =
    leaves_unless_refused P (first_refusal (join_questions own mask asked))
    (unless_status (join_refusal ports own mask asked state.partitions)
    (Ok (join_done own (join_asked own mask asked) (after_join ports (join_asked own mask asked) state))))
    (leaves_unless_refused P (join_refusal ports own mask asked state.partitions)
    (Ok (join_done own (join_asked own mask asked) (after_join ports (join_asked own mask asked) state))) after)

leave_leaves : (P : SaState → Type 0) (ports : List SubnetPort) (own : SubnetPort) (state : SaState) (mask : ℕ) (asked : McMemberRecord) (content : List ℕ)
    → P (record state { partitions = left ports (leave_asked own mask asked) state.partitions }) → Leaves P (leave_outcome ports own state mask asked content)
leave_leaves P ports own state mask asked content after =
    leaves_unless_refused P (first_refusal (leave_questions own state mask asked))
    (Ok (Success.one_reply content (record state { partitions = left ports (leave_asked own mask asked) state.partitions })))
    after

set_leaves : (P : SaState → Type 0) (own : SubnetPort) (state : SaState) (mask : ℕ) (asked : ServiceRecord)
    → P (after_change state (change_asked own asked (Deed.sets (service_asked mask asked)))) → Leaves P (service_set own state mask asked)
set_leaves P own state mask asked after =
    leaves_unless_refused P (first_refusal (owner_questions own mask asked)) (set_outcome own state asked service change)
    (leaves_unless_refused P (first_refusal (refused_if (not (has_room service.service_id (services_at change state.services))) NoResources ∷ []))
    (Ok (Success.one_reply (shown_bytes own asked service) (after_change state change))) after)
  where
    service : Service
    service = service_asked mask asked

    change : ServiceChange
    change = change_asked own asked (Deed.sets service)

delete_leaves : (P : SaState → Type 0) (own : SubnetPort) (state : SaState) (mask : ℕ) (asked : ServiceRecord) (content : List ℕ)
    → P (after_change state (change_asked own asked (Deed.deletes asked.service_id))) → Leaves P (service_deleted own state mask asked content)
delete_leaves P own state mask asked content after =
    leaves_unless_refused P (first_refusal (owner_questions own mask asked)) (delete_outcome state asked change content)
    (leaves_unless_refused P (first_refusal (refused_if (not (list_any (has_id asked.service_id) (services_at change state.services))) NoRecords ∷ []))
    (Ok (Success.one_reply content (after_change state change))) after)
  where
    change : ServiceChange
    change = change_asked own asked (Deed.deletes asked.service_id)

set_or_refused_leaves : (P : SaState → Type 0) (J : Join → Type 0) (C : ServiceChange → Type 0) (ports : List SubnetPort) (own : SubnetPort) (state : SaState) (request : Request)
    → AsksFor own request J C → KeptBy ports own state J C P → Leaves P (set_or_refused ports own state request)
set_or_refused_leaves P J C ports own state request asks kept =
    leaves_if P (is_about sa_attribute.McMemberRecord request) (join_outcome ports own state request.component_mask (group_in request.content)) _
    (join_leaves P ports own state request.component_mask (group_in request.content) (kept.joins _ refl asks.join))
    (leaves_if P (is_about sa_attribute.ServiceRecord request) (service_set own state request.component_mask (service_in request.content)) (Err AttributeNotSupported)
    (set_leaves P own state request.component_mask (service_in request.content) (kept.changes _ refl asks.set)) tt)

delete_or_refused_leaves : (P : SaState → Type 0) (J : Join → Type 0) (C : ServiceChange → Type 0) (ports : List SubnetPort) (own : SubnetPort) (state : SaState) (request : Request)
    → AsksFor own request J C → KeptBy ports own state J C P → Leaves P (delete_or_refused ports own state request)
delete_or_refused_leaves P J C ports own state request asks kept =
    leaves_if P (is_about sa_attribute.McMemberRecord request) (leave_outcome ports own state request.component_mask (group_in request.content) request.content) _
    (leave_leaves P ports own state request.component_mask (group_in request.content) request.content
    (kept.leaves (leave_asked own request.component_mask (group_in request.content)) refl))
    (leaves_if P (is_about sa_attribute.ServiceRecord request) (service_deleted own state request.component_mask (service_in request.content) request.content) (Err AttributeNotSupported)
    (delete_leaves P own state request.component_mask (service_in request.content) request.content (kept.changes _ refl asks.deletion)) tt)

outcome_leaves : (P : SaState → Type 0) (J : Join → Type 0) (C : ServiceChange → Type 0) (ports : List SubnetPort) (own : SubnetPort) (state : SaState) (request : Request)
    → AsksFor own request J C → KeptBy ports own state J C P → Leaves P (outcome ports own state request)
outcome_leaves P J C ports own state request asks kept =
    leaves_if P (request.header.method == method_code Get) (get_outcome ports own state (query_of request)) _
    (get_leaves P ports own state (query_of request) kept.same)
    (leaves_if P (request.header.method == method_code GetTable) (table_outcome ports own state (query_of request)) _
    (table_leaves P ports own state (query_of request))
    (leaves_if P (request.header.method == method_code Set) (set_or_refused ports own state request) _ (set_or_refused_leaves P J C ports own state request asks kept)
    (leaves_if P (request.header.method == method_code Delete) (delete_or_refused ports own state request) (Err MethodNotSupported)
    (delete_or_refused_leaves P J C ports own state request asks kept) tt)))

-- ---- the same of all that is remembered, and of the requester's table
abbrev After : (Administration → Type 0) → Administration → SaState → Type 0
After Q state next = Q (record state { remembered = next })

reported_leaves : (Q : Administration → Type 0) (own : SubnetPort) (request : Request) (state : Administration) (result : Result Success MadStatus) → Q state
    → ((table : Option Transfer) → Q (record state { transfers = with_table own.guid table state.transfers }))
    → Leaves (After Q state) result → Q (answered_with own request state result).1
reported_leaves Q own request state (Err status) same tables leaves = same
reported_leaves Q own request state (Ok (Success.one_reply bytes next)) same tables leaves = leaves
reported_leaves Q own request state (Ok (Success.whole_table offset bytes)) same tables leaves = tables _

pub second_if : {A B : Type 0} (Q : B → Type 0) (test : Bool) (a b : A × B) → Q a.1 → Q b.1 → Q (if test then a else b).1
second_if Q true a b first second = first
second_if Q false a b first second = second

answer_to_leaves : (Q : Administration → Type 0) (J : Join → Type 0) (C : ServiceChange → Type 0) (ports : List SubnetPort) (own : SubnetPort) (request : Request) (state : Administration)
    → ((table : Option Transfer) → Q (record state { transfers = with_table own.guid table state.transfers }))
    → Q state → AsksFor own request J C → KeptBy ports own state.remembered J C (After Q state) → Q (answer_to ports own request state).1
answer_to_leaves Q J C ports own request state tables same asks kept =
    second_if Q (not (has_versions request.header)) (version_refused request, state) _ same
    (second_if Q (bit_and request.rmpp.flags 1 == 1) _ _ (tables (on_rmpp request (table_of own.guid state.transfers)).1)
    (second_if Q (is_response request.header) ([], state) _ same
    (reported_leaves Q own request state (outcome ports own state.remembered request) same tables
    (outcome_leaves (After Q state) J C ports own state.remembered request asks kept))))

pub answer_leaves_by : (Q : Administration → Type 0) (J : Join → Type 0) (C : ServiceChange → Type 0) (ports : List SubnetPort) (own : SubnetPort) (payload : List ℕ) (state : Administration)
    → ((table : Option Transfer) → Q (record state { transfers = with_table own.guid table state.transfers }))
    → Q state → ((length payload == 256) ≡ true → AsksFor own (request_in payload) J C) → KeptBy ports own state.remembered J C (After Q state)
    → Q (answer ports own payload state).1
answer_leaves_by Q J C ports own payload state tables same asks kept = elim (cases_Bool (length payload == 256)) [
  | inl long ↦ second_if Q ((length payload == 256) && (field payload 8 8 == 3)) (answer_to ports own (request_in payload) state) ([], state)
      (answer_to_leaves Q J C ports own (request_in payload) state tables same (asks long) kept) same
  | inr other ↦ rw other same
]

pub answer_leaves : (Q : Administration → Type 0) (ports : List SubnetPort) (own : SubnetPort) (payload : List ℕ) (state : Administration)
    → ((table : Option Transfer) → Q (record state { transfers = with_table own.guid table state.transfers }))
    → Q state → Kept ports own state.remembered (After Q state) → Q (answer ports own payload state).1
answer_leaves Q ports own payload state tables same kept =
    answer_leaves_by Q any_join any_change ports own payload state tables same (λ long. asks_for_any own (request_in payload))
    (kept_by_any ports own state.remembered (After Q state) kept)
