-- What subnet administration answers to what comes to it, and what it remembers then (IBA volume 1, 13.4.5 and 15.2.2).
use Rattle.std.specs.Prelude.{ℕ, ◌==◌, not, ◌&&◌, bit_and, if◌then◌else◌, List, [], ◌∷◌, length, Option, Some, None, Result, Ok, Err}
use Rattle.std.specs.List.{flat_map}
use Rattle.mad_layout.specs.Bits.{field}
use Rattle.mad_layout.specs.Method.{method_code}
use Rattle.mad_layout.specs.declared.method.Method.TheVariants.{Get, Set, GetTable, Delete}
use Rattle.mad_layout.specs.declared.status.MadStatus.{MadStatus}
use Rattle.mad_layout.specs.declared.status.MadStatus.TheVariants.{BadVersion, MethodNotSupported, AttributeNotSupported}
use Rattle.rmpp_core.specs.Segments.{Transfer, opened, segment_mad}
use Rattle.sa_records.specs.NodeRecord.{node_in}
use Rattle.sa_records.specs.PathRecord.{path_in}
use Rattle.sa_records.specs.McMemberRecord.{group_in}
use Rattle.sa_records.specs.ServiceRecord.{service_in}
use Rattle.sa_records.specs.SaRecord.{record_bytes}
use Rattle.sa_records.specs.declared.node_record.TheConstants.{NODE_RECORD_OFFSET}
use Rattle.sa_records.specs.declared.path_record.TheConstants.{PATH_RECORD_OFFSET}
use Rattle.sa_records.specs.declared.mc_member_record.TheConstants.{MC_MEMBER_RECORD_OFFSET}
use Rattle.sa_records.specs.declared.service_record.TheConstants.{SERVICE_RECORD_OFFSET}
use Rattle.sa_records.specs.declared.sa_attribute.SaAttribute.TheVariants as sa_attribute
use Rattle.subnet_model.specs.declared.subnet_port.SubnetPort.{SubnetPort}
use Rattle.sa_model.specs.Visible.{SaState}
use Rattle.sa_model.specs.Shown.{Entry}
use Rattle.sa_model.specs.Selected.{Query}
use Rattle.sa_model.specs.Outcome.{got, table}
use Rattle.sa_replies.specs.Request.{Request, request_in, is_response, has_versions, is_about}
use Rattle.sa_replies.specs.Reply.{reply, refusal_reply, table_header}
use Rattle.sa_replies.specs.Transfers.{PortTransfer, with_table, table_of, on_rmpp}
use Rattle.sa_replies.specs.Success.{Success}
use Rattle.sa_replies.specs.Joins.{join_outcome, leave_outcome}
use Rattle.sa_replies.specs.ServiceRequests.{service_set, service_deleted}

-- all that it remembers: groups and services, and a table that is open to a port
pub record Administration : Type 0 where
  pub remembered : SaState
  pub transfers : List PortTransfer

-- ---- requests for records, by their AttributeID
abbrev pub query_of : Request → Option Query
query_of request =
    if is_about sa_attribute.NodeRecord request then Some (Query.for_nodes request.component_mask (node_in request.content))
    else if is_about sa_attribute.PathRecord request then Some (Query.for_paths request.component_mask (path_in request.content))
    else if is_about sa_attribute.McMemberRecord request then Some (Query.for_groups request.component_mask (group_in request.content))
    else if is_about sa_attribute.ServiceRecord request then Some (Query.for_services request.component_mask (service_in request.content))
    else None

-- from one record of a table to the next, in units of 8 bytes
abbrev pub offset_of : Query → ℕ
offset_of (Query.for_nodes mask asked) = NODE_RECORD_OFFSET
offset_of (Query.for_paths mask asked) = PATH_RECORD_OFFSET
offset_of (Query.for_groups mask asked) = MC_MEMBER_RECORD_OFFSET
offset_of (Query.for_services mask asked) = SERVICE_RECORD_OFFSET

abbrev pub one_record : SaState → Result Entry MadStatus → Result Success MadStatus
one_record state (Ok entry) = Ok (Success.one_reply (record_bytes entry.shown) state)
one_record state (Err status) = Err status

abbrev pub all_records : Query → Result (List Entry) MadStatus → Result Success MadStatus
all_records query (Ok entries) = Ok (Success.whole_table (offset_of query) (flat_map (λ entry. record_bytes entry.shown) entries))
all_records query (Err status) = Err status

abbrev pub get_outcome : List SubnetPort → SubnetPort → SaState → Option Query → Result Success MadStatus
get_outcome ports own state (Some query) = one_record state (got ports own state query)
get_outcome ports own state None = Err AttributeNotSupported

abbrev pub table_outcome : List SubnetPort → SubnetPort → SaState → Option Query → Result Success MadStatus
table_outcome ports own state (Some query) = all_records query (table ports own state query)
table_outcome ports own state None = Err AttributeNotSupported

-- ---- by method; MCMemberRecords and ServiceRecords alone are set and deleted
abbrev pub set_or_refused : List SubnetPort → SubnetPort → SaState → Request → Result Success MadStatus
set_or_refused ports own state request =
    if is_about sa_attribute.McMemberRecord request then join_outcome ports own state request.component_mask (group_in request.content)
    else if is_about sa_attribute.ServiceRecord request then service_set own state request.component_mask (service_in request.content)
    else Err AttributeNotSupported

abbrev pub delete_or_refused : List SubnetPort → SubnetPort → SaState → Request → Result Success MadStatus
delete_or_refused ports own state request =
    if is_about sa_attribute.McMemberRecord request
    then leave_outcome ports own state request.component_mask (group_in request.content) request.content
    else if is_about sa_attribute.ServiceRecord request
    then service_deleted own state request.component_mask (service_in request.content) request.content
    else Err AttributeNotSupported

abbrev pub outcome : List SubnetPort → SubnetPort → SaState → Request → Result Success MadStatus
outcome ports own state request =
    if request.header.method == method_code Get then get_outcome ports own state (query_of request)
    else if request.header.method == method_code GetTable then table_outcome ports own state (query_of request)
    else if request.header.method == method_code Set then set_or_refused ports own state request
    else if request.header.method == method_code Delete then delete_or_refused ports own state request
    else Err MethodNotSupported

-- ---- as MADs: one reply, or the first segment of a table, which takes the place of one that is open to the port
abbrev pub Answered : Type 0
Answered = List (List ℕ) × Administration

abbrev pub answered_with : SubnetPort → Request → Administration → Result Success MadStatus → Answered
answered_with own request state (Err status) = (refusal_reply request status ∷ [], state)
answered_with own request state (Ok (Success.one_reply bytes next)) = (reply request bytes ∷ [], record state { remembered = next })
answered_with own request state (Ok (Success.whole_table offset bytes)) = (
  segment_mad (opened (table_header request offset) bytes) 1 ∷ [],
  record state { transfers = with_table own.guid (Some (opened (table_header request offset) bytes)) state.transfers },
)

-- a MAD of a transfer
abbrev pub after_rmpp : SubnetPort → Administration → List (List ℕ) × Option Transfer → Answered
after_rmpp own state answer = (answer.0, record state { transfers = with_table own.guid answer.1 state.transfers })

-- a request of a version that is not ours
abbrev pub version_refused : Request → List (List ℕ)
version_refused request = if is_response request.header then [] else refusal_reply request BadVersion ∷ []

-- the first of these cases that holds: a version that is not ours, a MAD of a transfer, a response, a request
abbrev pub answer_to : List SubnetPort → SubnetPort → Request → Administration → Answered
answer_to ports own request state =
    if not (has_versions request.header)
    then (version_refused request, state)
    else if bit_and request.rmpp.flags 1 == 1 then after_rmpp own state (on_rmpp request (table_of own.guid state.transfers))
    else if is_response request.header then ([], state)
    else answered_with own request state (outcome ports own state.remembered request)

-- a MAD has 256 bytes, and those of subnet administration have class 3; to all else there is no answer
abbrev pub answer : List SubnetPort → SubnetPort → List ℕ → Administration → Answered
answer ports own payload state =
    if (length payload == 256) && (field payload 8 8 == 3) then answer_to ports own (request_in payload) state else ([], state)
