-- Requests that are refused change nothing, and the others leave what they are not about.
use Rattle.std.proofs.Common.{ℕ, ◌^◌, ◌<◌, Bool, true, false, ◌==◌, ◌&&◌, not, bit_and, List, [], ◌∷◌, length, Option, Some, None, Result, Ok, Err, if◌then◌else◌}
use Rattle.std.proofs.Common.{◌≡◌, ◌⊎◌, ap, refl, sym, subst, inl, inr, arith}
use Rattle.std.specs.Int.Digits.{AllBelowBase}
use Rattle.std.specs.List.{list_any}
use Rattle.std.proofs.lemmas.Bool.{cases_Bool, both_ways, and_from, and_parts, eqb-true, eq-eqb}
use Rattle.mad_layout.specs.Bits.{field}
use Rattle.mad_layout.specs.Method.{method_code}
use Rattle.mad_layout.specs.declared.method.Method.{Method}
use Rattle.mad_layout.specs.declared.method.Method.TheVariants.{Get, Set, GetTable, Delete}
use Rattle.mad_layout.specs.declared.status.MadStatus.{MadStatus}
use Rattle.mad_layout.specs.declared.status.MadStatus.TheVariants.{BadVersion, MethodNotSupported, AttributeNotSupported, NoResources, NoRecords}
use Rattle.rmpp_core.specs.Segments.{Transfer, opened, payload_size, segment_mad}
use Rattle.sa_records.specs.declared.sa_record.SaRecord.TheVariants as sa_record
use Rattle.sa_records.specs.declared.mc_member_record.McMemberRecord.{McMemberRecord}
use Rattle.sa_records.specs.declared.service_record.ServiceRecord.{ServiceRecord}
use Rattle.sa_records.specs.declared.sa_attribute.SaAttribute.TheVariants as sa_attribute
use Rattle.subnet_model.specs.declared.subnet_port.SubnetPort.{SubnetPort}
use Rattle.sa_model.specs.Groups.{MulticastGroup}
use Rattle.sa_model.specs.Leaving.{left}
use Rattle.sa_model.specs.ServiceChange.{Deed, has_id, has_room}
use Rattle.sa_model.specs.Visible.{SaState}
use Rattle.sa_model.specs.Shown.{Entry, service_record_of}
use Rattle.sa_model.specs.Selected.{Query}
use Rattle.sa_model.specs.Refusals.{refused_if, first_refusal}
use Rattle.sa_model.specs.Outcome.{unless_status, got, table}
use Rattle.pkey_rules.specs.PKey.{base_of}
use Rattle.sa_replies.specs.Request.{Request, request_in, is_response, has_versions, is_about}
use Rattle.sa_records.specs.McMemberRecord.{group_in}
use Rattle.sa_records.specs.ServiceRecord.{service_in}
use Rattle.sa_replies.specs.Reply.{reply, refusal_reply, table_header}
use Rattle.sa_replies.specs.Transfers.{PortTransfer, with_table, table_of, on_rmpp}
use Rattle.sa_replies.specs.Success.{Success}
use Rattle.sa_replies.specs.Joins.{join_asked, leave_asked, join_questions, join_refusal, join_done, join_outcome, after_join, group_named, member_bytes, member_record, leave_questions, leave_outcome}
use Rattle.sa_replies.specs.ServiceRequests.{owner_questions, service_asked, change_asked, services_at, shown_bytes, set_outcome, service_set, delete_outcome, service_deleted, after_change}
use Rattle.sa_replies.specs.Answer.{Administration, Answered, query_of, offset_of, one_record, all_records, get_outcome, table_outcome, set_or_refused, delete_or_refused, outcome, answered_with, after_rmpp, version_refused, answer_to, answer}
use Rattle.sa_replies.specs.Laws.{is_of_transfer, asks_by, are_refusals, CanBeReported, RefusedChangeNothing, RequestsLeaveTheRest}
use Rattle.sa_replies.proofs.StatusLemmas.{AreData, no_data, content_is_data, record_is_data, records_below, IsCopied, is_copied, reply_status, first_status, refusal_status}

-- ---- what a request ends in that is not refused
abbrev pub Ends : (Success → Type 0) → Result Success MadStatus → Type 0
Ends P (Ok success) = P success
Ends P (Err status) = Unit {0}

pub ends_if : (P : Success → Type 0) (test : Bool) (a b : Result Success MadStatus) → Ends P a → Ends P b → Ends P (if test then a else b)
ends_if P true a b first second = first
ends_if P false a b first second = second

pub ends_unless : (P : Success → Type 0) (refused : Option MadStatus) (result : Result Success MadStatus) → Ends P result → Ends P (unless_status refused result)
ends_unless P None result ends = ends
ends_unless P (Some status) result ends = tt

pub ends_more : (P Q : Success → Type 0) → ((success : Success) → P success → Q success) → (result : Result Success MadStatus) → Ends P result → Ends Q result
ends_more P Q more (Ok success) ends = more success ends
ends_more P Q more (Err status) ends = tt

-- a Get ends in a reply and leaves the state, a GetTable in a table, a Set and a Delete in a reply; each by bytes
abbrev pub IsGot : SaState → Success → Type 0
IsGot state (Success.one_reply bytes next) = AreData bytes × (next ≡ state)
IsGot state (Success.whole_table offset bytes) = ⊥

abbrev pub IsTable : Success → Type 0
IsTable (Success.one_reply bytes next) = ⊥
IsTable (Success.whole_table offset bytes) = (offset < 2 ^ 16) × AllBelowBase 256 bytes

abbrev pub IsReply : Success → Type 0
IsReply (Success.one_reply bytes next) = AreData bytes
IsReply (Success.whole_table offset bytes) = ⊥

abbrev pub AreBytes : Success → Type 0
AreBytes (Success.one_reply bytes next) = AreData bytes
AreBytes (Success.whole_table offset bytes) = (offset < 2 ^ 16) × AllBelowBase 256 bytes

got_bytes : (state : SaState) (success : Success) → IsGot state success → AreBytes success
got_bytes state (Success.one_reply bytes next) is = is.0
got_bytes state (Success.whole_table offset bytes) is = absurd is

table_bytes : (success : Success) → IsTable success → AreBytes success
table_bytes (Success.one_reply bytes next) is = absurd is
table_bytes (Success.whole_table offset bytes) is = is

reply_bytes_are : (success : Success) → IsReply success → AreBytes success
reply_bytes_are (Success.one_reply bytes next) is = is
reply_bytes_are (Success.whole_table offset bytes) is = absurd is

one_ends : (state : SaState) (result : Result Entry MadStatus) → Ends (IsGot state) (one_record state result)
one_ends state (Ok entry) = (record_is_data entry.shown, refl)
one_ends state (Err status) = tt

offset_low : (query : Query) → offset_of query < 2 ^ 16
offset_low (Query.for_nodes mask asked) = omega arith
offset_low (Query.for_paths mask asked) = omega arith
offset_low (Query.for_groups mask asked) = omega arith
offset_low (Query.for_services mask asked) = omega arith

all_end : (query : Query) (result : Result (List Entry) MadStatus) → Ends IsTable (all_records query result)
all_end query (Ok entries) = (offset_low query, records_below entries)
all_end query (Err status) = tt

pub get_ends : (ports : List SubnetPort) (own : SubnetPort) (state : SaState) (query : Option Query) → Ends (IsGot state) (get_outcome ports own state query)
get_ends ports own state (Some query) = one_ends state (got ports own state query)
get_ends ports own state None = tt

pub table_ends : (ports : List SubnetPort) (own : SubnetPort) (state : SaState) (query : Option Query) → Ends IsTable (table_outcome ports own state query)
table_ends ports own state (Some query) = all_end query (table ports own state query)
table_ends ports own state None = tt

member_is_data : (own : SubnetPort) (base : ℕ) (group : Option MulticastGroup) → AreData (member_bytes own base group)
member_is_data own base None = no_data
member_is_data own base (Some group) = record_is_data (sa_record.Group (member_record own base group))

join_ends : (ports : List SubnetPort) (own : SubnetPort) (state : SaState) (mask : ℕ) (asked : McMemberRecord) → Ends IsReply (join_outcome ports own state mask asked)
join_ends ports own state mask asked =
    let join = join_asked own mask asked in
    let next = after_join ports join state in
    ends_unless IsReply (first_refusal (join_questions own mask asked)) (unless_status (join_refusal ports own mask asked state.partitions) (Ok (join_done own join next)))
    (ends_unless IsReply (join_refusal ports own mask asked state.partitions) (Ok (join_done own join next))
    (member_is_data own join.base (group_named join.base join.mgid next.partitions)))

leave_ends : (ports : List SubnetPort) (own : SubnetPort) (state : SaState) (mask : ℕ) (asked : McMemberRecord) (content : List ℕ) → AreData content
    → Ends IsReply (leave_outcome ports own state mask asked content)
leave_ends ports own state mask asked content are =
    ends_unless IsReply (first_refusal (leave_questions own state mask asked))
    (Ok (Success.one_reply content (record state { partitions = left ports (leave_asked own mask asked) state.partitions }))) are

set_ends : (own : SubnetPort) (state : SaState) (mask : ℕ) (asked : ServiceRecord) → Ends IsReply (service_set own state mask asked)
set_ends own state mask asked =
    let service = service_asked mask asked in
    let change = change_asked own asked (Deed.sets service) in
    ends_unless IsReply (first_refusal (owner_questions own mask asked)) (set_outcome own state asked service change)
    (ends_unless IsReply (first_refusal (refused_if (not (has_room service.service_id (services_at change state.services))) NoResources ∷ []))
    (Ok (Success.one_reply (shown_bytes own asked service) (after_change state change)))
    (record_is_data (sa_record.Service (service_record_of (record { port = own.guid; base = base_of asked.service_p_key; service = service })))))

delete_ends : (own : SubnetPort) (state : SaState) (mask : ℕ) (asked : ServiceRecord) (content : List ℕ) → AreData content
    → Ends IsReply (service_deleted own state mask asked content)
delete_ends own state mask asked content are =
    let change = change_asked own asked (Deed.deletes asked.service_id) in
    ends_unless IsReply (first_refusal (owner_questions own mask asked)) (delete_outcome state asked change content)
    (ends_unless IsReply (first_refusal (refused_if (not (list_any (has_id asked.service_id) (services_at change state.services))) NoRecords ∷ []))
    (Ok (Success.one_reply content (after_change state change))) are)

pub set_or_refused_ends : (ports : List SubnetPort) (own : SubnetPort) (state : SaState) (request : Request) → Ends IsReply (set_or_refused ports own state request)
set_or_refused_ends ports own state request =
    ends_if IsReply (is_about sa_attribute.McMemberRecord request) (join_outcome ports own state request.component_mask (group_in request.content)) _
    (join_ends ports own state request.component_mask (group_in request.content))
    (ends_if IsReply (is_about sa_attribute.ServiceRecord request) (service_set own state request.component_mask (service_in request.content)) (Err AttributeNotSupported)
    (set_ends own state request.component_mask (service_in request.content)) tt)

delete_or_refused_ends : (ports : List SubnetPort) (own : SubnetPort) (state : SaState) (request : Request) → AreData request.content
    → Ends IsReply (delete_or_refused ports own state request)
delete_or_refused_ends ports own state request are =
    ends_if IsReply (is_about sa_attribute.McMemberRecord request) (leave_outcome ports own state request.component_mask (group_in request.content) request.content) _
    (leave_ends ports own state request.component_mask (group_in request.content) request.content are)
    (ends_if IsReply (is_about sa_attribute.ServiceRecord request) (service_deleted own state request.component_mask (service_in request.content) request.content) (Err AttributeNotSupported)
    (delete_ends own state request.component_mask (service_in request.content) request.content are) tt)

pub outcome_ends : (ports : List SubnetPort) (own : SubnetPort) (state : SaState) (request : Request) → AreData request.content → Ends AreBytes (outcome ports own state request)
outcome_ends ports own state request are =
    ends_if AreBytes (request.header.method == method_code Get) (get_outcome ports own state (query_of request)) _
    (ends_more (IsGot state) AreBytes (got_bytes state) (get_outcome ports own state (query_of request)) (get_ends ports own state (query_of request)))
    (ends_if AreBytes (request.header.method == method_code GetTable) (table_outcome ports own state (query_of request)) _
    (ends_more IsTable AreBytes table_bytes (table_outcome ports own state (query_of request)) (table_ends ports own state (query_of request)))
    (ends_if AreBytes (request.header.method == method_code Set) (set_or_refused ports own state request) _
    (ends_more IsReply AreBytes reply_bytes_are (set_or_refused ports own state request) (set_or_refused_ends ports own state request))
    (ends_if AreBytes (request.header.method == method_code Delete) (delete_or_refused ports own state request) (Err MethodNotSupported)
    (ends_more IsReply AreBytes reply_bytes_are (delete_or_refused ports own state request) (delete_or_refused_ends ports own state request are)) tt)))

-- ---- a table that is opened takes a place, or there is none for it and all is as it was
abbrev IsReported : List PortTransfer → ℕ → Transfer → Type 0
IsReported transfers port transfer = (with_table port (Some transfer) transfers ≡ transfers) ⊎ (payload_size transfer.bytes < 2 ^ 32)

is_reported : (port : ℕ) (transfer : Transfer) (transfers : List PortTransfer) → CanBeReported (table_of port (with_table port (Some transfer) transfers))
    → IsReported transfers port transfer
is_reported port transfer [] can = inl refl
is_reported port transfer (x ∷ xs) can = elim (cases_Bool (x.port == port)) [
  | inl this ↦ inr (rw (this, eq-eqb port port refl) at can)
  | inr other ↦ elim (is_reported port transfer xs (rw (other, other) at can)) [
    | inl same ↦ inl (rw other (ap (λ rest. x ∷ rest) same))
    | inr low ↦ inr low
  ]
]

-- ---- a request that is no MAD of a transfer
reported_refused : (own : SubnetPort) (request : Request) (state : Administration) (result : Result Success MadStatus) → IsCopied request → Ends AreBytes result
    → CanBeReported (table_of own.guid (answered_with own request state result).1.transfers) → are_refusals (answered_with own request state result).0 ≡ true
    → (answered_with own request state result).1 ≡ state
reported_refused own request state (Err status) copied are can refused = refl
reported_refused own request state (Ok (Success.one_reply bytes next)) copied are can refused =
    let zero_status : are_refusals (reply request bytes ∷ []) ≡ false = rw (reply_status request bytes copied are) refl in
    absurd (both_ways (are_refusals (reply request bytes ∷ [])) zero_status refused)
reported_refused own request state (Ok (Success.whole_table offset bytes)) copied are can refused =
    let transfer = opened (table_header request offset) bytes in
    elim (is_reported own.guid transfer state.transfers can) [
      | inl same ↦ ap (λ transfers. record state { transfers = transfers }) same
      | inr low ↦
          let zero_status : not (field (segment_mad transfer 1) 32 16 == 0) && true ≡ false = rw (first_status request offset bytes copied are.0 are.1 low) refl in
          absurd (both_ways (not (field (segment_mad transfer 1) 32 16 == 0) && true) zero_status refused)
    ]

-- what holds of both branches, each where it is taken
pub cases_if : {A : Type 0} (Q : A → Type 0) (test : Bool) (a b : A) → (test ≡ true → Q a) → (test ≡ false → Q b) → Q (if test then a else b)
cases_if Q true a b first second = first refl
cases_if Q false a b first second = second refl

-- ---- what each leaves
reported_got : (own : SubnetPort) (request : Request) (state : Administration) (result : Result Success MadStatus) → Ends (IsGot state.remembered) result
    → (answered_with own request state result).1 ≡ state
reported_got own request state (Err status) is = refl
reported_got own request state (Ok (Success.one_reply bytes next)) is = ap (λ remembered. record state { remembered = remembered }) is.1
reported_got own request state (Ok (Success.whole_table offset bytes)) is = absurd is

reported_table : (own : SubnetPort) (request : Request) (state : Administration) (result : Result Success MadStatus) → Ends IsTable result
    → (answered_with own request state result).1.remembered ≡ state.remembered
reported_table own request state (Err status) is = refl
reported_table own request state (Ok (Success.one_reply bytes next)) is = absurd is
reported_table own request state (Ok (Success.whole_table offset bytes)) is = refl

-- a reply is one whatever its bytes are
abbrev pub IsOneReply : Success → Type 0
IsOneReply (Success.one_reply bytes next) = Unit {0}
IsOneReply (Success.whole_table offset bytes) = ⊥

reported_reply : (own : SubnetPort) (request : Request) (state : Administration) (result : Result Success MadStatus) → Ends IsOneReply result
    → (answered_with own request state result).1.transfers ≡ state.transfers
reported_reply own request state (Err status) is = refl
reported_reply own request state (Ok (Success.one_reply bytes next)) is = refl
reported_reply own request state (Ok (Success.whole_table offset bytes)) is = absurd is

pub reply_is_one : (success : Success) → IsReply success → IsOneReply success
reply_is_one (Success.one_reply bytes next) is = tt
reply_is_one (Success.whole_table offset bytes) is = absurd is

pub delete_is_one : (ports : List SubnetPort) (own : SubnetPort) (state : SaState) (request : Request) → Ends IsOneReply (delete_or_refused ports own state request)
delete_is_one ports own state request =
    let leave = leave_asked own request.component_mask (group_in request.content) in
    let asked = service_in request.content in
    let change = change_asked own asked (Deed.deletes asked.service_id) in
    ends_if IsOneReply (is_about sa_attribute.McMemberRecord request) (leave_outcome ports own state request.component_mask (group_in request.content) request.content) _
    (ends_unless IsOneReply (first_refusal (leave_questions own state request.component_mask (group_in request.content)))
    (Ok (Success.one_reply request.content (record state { partitions = left ports leave state.partitions }))) tt)
    (ends_if IsOneReply (is_about sa_attribute.ServiceRecord request) (service_deleted own state request.component_mask asked request.content) (Err AttributeNotSupported)
    (ends_unless IsOneReply (first_refusal (owner_questions own request.component_mask asked)) (delete_outcome state asked change request.content)
    (ends_unless IsOneReply (first_refusal (refused_if (not (list_any (has_id asked.service_id) (services_at change state.services))) NoRecords ∷ []))
    (Ok (Success.one_reply request.content (after_change state change))) tt)) tt)

-- a request that is no MAD of a transfer leaves what is left where it is reported
module _ (ports : List SubnetPort) (own : SubnetPort) (payload : List ℕ) (state : Administration) where
  abbrev is_ours : Bool
  is_ours = (length payload == 256) && (field payload 8 8 == 3)

  abbrev reported_here : Answered
  reported_here = answered_with own (request_in payload) state (outcome ports own state.remembered (request_in payload))

  not_false : (b : Bool) → not b ≡ false → b ≡ true
  not_false true e = refl
  not_false false e = sym e

  of_transfer : is_ours ≡ true → not (has_versions (request_in payload).header) ≡ false → (bit_and (request_in payload).rmpp.flags 1 == 1) ≡ true
      → is_of_transfer payload ≡ true
  of_transfer ours versions active =
      and_from is_ours (has_versions (request_in payload).header && (bit_and (request_in payload).rmpp.flags 1 == 1)) ours
      (and_from (has_versions (request_in payload).header) (bit_and (request_in payload).rmpp.flags 1 == 1)
      (not_false (has_versions (request_in payload).header) versions) active)

  versions_refused : are_refusals (version_refused (request_in payload)) ≡ true
  versions_refused = elim (cases_Bool (is_response (request_in payload).header)) [
    | inl response ↦ rw response refl
    | inr asks ↦ rw asks (and_from (not (field (refusal_reply (request_in payload) BadVersion) 32 16 == 0)) true
        (refusal_status (request_in payload) BadVersion (is_copied payload asks)) refl)
  ]

  pub by_request : (Q : Answered → Type 0) → is_of_transfer payload ≡ false → ((mads : List (List ℕ)) → are_refusals mads ≡ true → Q (mads, state))
      → (is_response (request_in payload).header ≡ false → Q reported_here) → Q (answer ports own payload state)
  by_request Q apart same here =
      let request = request_in payload in
      cases_if Q is_ours (answer_to ports own request state) ([], state)
      (λ ours. cases_if Q (not (has_versions request.header)) (version_refused request, state) _ (λ e. same (version_refused request) versions_refused)
      (λ versions. cases_if Q (bit_and request.rmpp.flags 1 == 1) (after_rmpp own state (on_rmpp request (table_of own.guid state.transfers))) _
      (λ active. absurd (both_ways (is_of_transfer payload) apart (of_transfer ours versions active)))
      (λ inactive. cases_if Q (is_response request.header) ([], state) reported_here (λ e. same [] refl) here)))
      (λ e. same [] refl)

  pub by_method : (method : Method) (Q : Answered → Type 0) → asks_by method payload ≡ true
      → ((mads : List (List ℕ)) → are_refusals mads ≡ true → Q (mads, state))
      → (is_response (request_in payload).header ≡ false → (request_in payload).header.method ≡ method_code method → Q reported_here) → Q (answer ports own payload state)
  by_method method Q asks same here =
      let parts = and_parts (not (is_of_transfer payload)) ((request_in payload).header.method == method_code method) asks in
      by_request Q (was_not (is_of_transfer payload) parts.0) same (λ request. here request (eqb-true (request_in payload).header.method (method_code method) parts.1))
    where
      was_not : (b : Bool) → not b ≡ true → b ≡ false
      was_not true e = sym e
      was_not false e = refl

  by_transfer : is_of_transfer payload ≡ true → (answer ports own payload state).1.remembered ≡ state.remembered
  by_transfer of_it =
      let parts = and_parts is_ours (has_versions (request_in payload).header && (bit_and (request_in payload).rmpp.flags 1 == 1)) of_it in
      let both = and_parts (has_versions (request_in payload).header) (bit_and (request_in payload).rmpp.flags 1 == 1) parts.1 in
      rw (parts.0, both.0, both.1) refl

pub refused_change_nothing : RefusedChangeNothing
refused_change_nothing ports own payload state below apart =
    by_request ports own payload state
    (λ answered. CanBeReported (table_of own.guid answered.1.transfers) → are_refusals answered.0 ≡ true → answered.1 ≡ state) apart
    (λ mads are can refused. refl)
    (λ asks. reported_refused own (request_in payload) state (outcome ports own state.remembered (request_in payload)) (is_copied payload asks)
    (outcome_ends ports own state.remembered (request_in payload) (content_is_data payload below)))

-- what a request ends in, by its method
abbrev pub ended : ℕ → List SubnetPort → SubnetPort → SaState → Request → Result Success MadStatus
ended method ports own state request =
    if method == method_code Get then get_outcome ports own state (query_of request)
    else if method == method_code GetTable then table_outcome ports own state (query_of request)
    else if method == method_code Set then set_or_refused ports own state request
    else if method == method_code Delete then delete_or_refused ports own state request
    else Err MethodNotSupported

pub ends_by : (P : Success → Type 0) (method : ℕ) (ports : List SubnetPort) (own : SubnetPort) (state : SaState) (request : Request) → request.header.method ≡ method
    → Ends P (ended method ports own state request) → Ends P (outcome ports own state request)
ends_by P method ports own state request same ends = subst (λ (n : ℕ). Ends P (ended n ports own state request)) (sym same) ends

pub requests_leave_the_rest : RequestsLeaveTheRest
requests_leave_the_rest ports own payload state =
    let request = request_in payload in
    let s = state.remembered in
    let result = outcome ports own s request in
    record {
      by_get = λ asks. by_method ports own payload state Get (λ answered. answered.1 ≡ state) asks (λ mads are. refl)
          (λ request_is method. reported_got own request state result (ends_by (IsGot s) (method_code Get) ports own s request method (get_ends ports own s (query_of request))));
      by_get_table = λ asks. by_method ports own payload state GetTable (λ answered. answered.1.remembered ≡ state.remembered) asks (λ mads are. refl)
          (λ request_is method. reported_table own request state result (ends_by IsTable (method_code GetTable) ports own s request method (table_ends ports own s (query_of request))));
      by_set = λ asks. by_method ports own payload state Set (λ answered. answered.1.transfers ≡ state.transfers) asks (λ mads are. refl)
          (λ request_is method. reported_reply own request state result (ends_by IsOneReply (method_code Set) ports own s request method
          (ends_more IsReply IsOneReply reply_is_one (set_or_refused ports own s request) (set_or_refused_ends ports own s request))));
      by_delete = λ asks. by_method ports own payload state Delete (λ answered. answered.1.transfers ≡ state.transfers) asks (λ mads are. refl)
          (λ request_is method. reported_reply own request state result (ends_by IsOneReply (method_code Delete) ports own s request method (delete_is_one ports own s request)));
      by_transfer = by_transfer ports own payload state;
    }
