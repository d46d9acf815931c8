-- Beside each answer, where the bytes of its records come from: noted of each MAD, and of the table that is open to a port.
use Rattle.std.specs.Prelude.{ℕ, ◌-◌, ◌*◌, ◌==◌, not, ◌&&◌, bit_and, Bool, if◌then◌else◌}
use Rattle.std.specs.Prelude.{List, [], length, map, take, drop, Option, Some, None, Result, Ok, Err}
use Rattle.std.specs.List.{flat_map}
use Rattle.mad_layout.specs.Bits.{field}
use Rattle.mad_layout.specs.Method.{method_code}
use Rattle.mad_layout.specs.declared.method.Method.TheVariants.{Get, Set, GetTable}
use Rattle.mad_layout.specs.declared.status.MadStatus.{MadStatus}
use Rattle.pkey_rules.specs.PKey.{base_of}
use Rattle.rmpp_core.specs.Receiving.{is_data}
use Rattle.mad_layout.specs.RmppHeader.{rmpp_in}
use Rattle.sa_records.specs.declared.sa_record.SaRecord.TheVariants as sa_record
use Rattle.sa_records.specs.declared.mc_member_record.McMemberRecord.{McMemberRecord}
use Rattle.sa_records.specs.declared.service_record.ServiceRecord.{ServiceRecord}
use Rattle.sa_records.specs.declared.sa_attribute.SaAttribute.TheVariants as sa_attribute
use Rattle.subnet_model.specs.declared.subnet_port.SubnetPort.{SubnetPort}
use Rattle.sa_model.specs.Groups.{Creator, MulticastGroup}
use Rattle.sa_model.specs.Visible.{SaState}
use Rattle.sa_model.specs.Shown.{Entry, service_entry}
use Rattle.sa_model.specs.Selected.{Query}
use Rattle.sa_model.specs.Outcome.{got, table}
use Rattle.sa_replies.specs.Request.{Request, request_in, is_response, has_versions, is_about}
use Rattle.sa_records.specs.McMemberRecord.{group_in}
use Rattle.sa_records.specs.ServiceRecord.{service_in}
use Rattle.sa_replies.specs.Success.{Success}
use Rattle.sa_replies.specs.Joins.{group_named, member_record}
use Rattle.sa_replies.specs.ServiceRequests.{service_asked}
use Rattle.sa_replies.specs.Answer.{Administration, answer, outcome, query_of}
use Rattle.sa_records.specs.SaRecord.{record_bytes}

-- ---- a byte, with the port or the partition file that it comes from
pub record NotedByte : Type 0 where
  pub byte : ℕ
  pub source : Creator

abbrev pub from_source : Creator → List ℕ → List NotedByte
from_source source bytes = map (λ byte. record { byte = byte; source = source }) bytes

-- those of a record come from what the record comes from
abbrev pub noted_record : Entry → List NotedByte
noted_record entry = from_source entry.source (record_bytes entry.shown)

abbrev pub noted_records : List Entry → List NotedByte
noted_records entries = flat_map noted_record entries

-- those that are in the segment of a number: a record that is cut in two has some in either
abbrev pub in_segment : ℕ → List NotedByte → List NotedByte
in_segment number bytes = take 200 (drop (200 * (number - 1)) bytes)

-- ---- of each port, by its GUID, the records of the table that was opened to it last, as they were selected then
abbrev pub Notes : Type 0
Notes = ℕ → List Entry

abbrev pub no_notes : Notes
no_notes port = []

abbrev pub with_notes : ℕ → List Entry → Notes → Notes
with_notes port entries notes other = if other == port then entries else notes other

-- what a MAD is: a request, and no MAD of a transfer and no response
abbrev pub is_request : List ℕ → Bool
is_request payload =
    ((length payload == 256) && (field payload 8 8 == 3))
    && (has_versions (request_in payload).header
    && (not (bit_and (request_in payload).rmpp.flags 1 == 1) && not (is_response (request_in payload).header)))

-- only a GetTable that is not refused changes them
abbrev pub noted_if_ok : ℕ → Result (List Entry) MadStatus → Notes → Notes
noted_if_ok port (Ok entries) notes = with_notes port entries notes
noted_if_ok port (Err status) notes = notes

abbrev pub noted_table : List SubnetPort → SubnetPort → SaState → Option Query → Notes → Notes
noted_table ports own state (Some query) notes = noted_if_ok own.guid (table ports own state query) notes
noted_table ports own state None notes = notes

abbrev pub noted_request : List SubnetPort → SubnetPort → SaState → Request → Notes → Notes
noted_request ports own state request notes =
    if request.header.method == method_code GetTable then noted_table ports own state (query_of request) notes else notes

abbrev pub notes_after : List SubnetPort → SubnetPort → List ℕ → Administration → Notes → Notes
notes_after ports own payload state notes =
    if is_request payload then noted_request ports own state.remembered (request_in payload) notes else notes

-- ---- the source of the data of a reply that is no segment. Of a Get: the source of its record
abbrev pub noted_if_got : Result Entry MadStatus → List NotedByte
noted_if_got (Ok entry) = noted_record entry
noted_if_got (Err status) = []

abbrev pub noted_get : List SubnetPort → SubnetPort → SaState → Option Query → List NotedByte
noted_get ports own state (Some query) = noted_if_got (got ports own state query)
noted_get ports own state None = []

-- of a join: who made the group, as it is after the join
abbrev pub member_entry : SubnetPort → ℕ → MulticastGroup → Entry
member_entry own base group = record { shown = sa_record.Group (member_record own base group); source = group.creator }

abbrev pub noted_member : SubnetPort → ℕ → Option MulticastGroup → List NotedByte
noted_member own base (Some group) = noted_record (member_entry own base group)
noted_member own base None = []

abbrev pub noted_join : SubnetPort → McMemberRecord → SaState → List NotedByte
noted_join own asked next =
    noted_member own (base_of asked.p_key) (group_named (base_of asked.p_key) asked.mgid next.partitions)

-- of the Set of a service, and of a Delete, whose reply has the request's own data: the port that asks
abbrev pub noted_service : SubnetPort → ℕ → ServiceRecord → List NotedByte
noted_service own mask asked =
    noted_record (service_entry (record { port = own.guid; base = base_of asked.service_p_key; service = service_asked mask asked }))

abbrev pub noted_set : SubnetPort → Request → SaState → List NotedByte
noted_set own request next =
    if is_about sa_attribute.McMemberRecord request
    then noted_join own (group_in request.content) next
    else noted_service own request.component_mask (service_in request.content)

abbrev pub noted_success : List SubnetPort → SubnetPort → SaState → Request → SaState → List NotedByte
noted_success ports own state request next =
    if request.header.method == method_code Get then noted_get ports own state (query_of request)
    else if request.header.method == method_code Set then noted_set own request next
    else from_source (Creator.Port own.guid) request.content

-- of a refusal, and of a table, which is sent in segments, nothing is noted here
abbrev pub noted_reply : List SubnetPort → SubnetPort → SaState → Request → Result Success MadStatus → List NotedByte
noted_reply ports own state request (Ok (Success.one_reply bytes next)) = noted_success ports own state request next
noted_reply ports own state request (Ok (Success.whole_table offset bytes)) = []
noted_reply ports own state request (Err status) = []

-- ---- the answer, with all that is noted
-- a segment has bytes of the records of its table; an ABORT has none
abbrev pub noted_bytes : List SubnetPort → SubnetPort → List ℕ → Administration → Notes → List ℕ → List NotedByte
noted_bytes ports own payload state notes mad =
    if is_data (rmpp_in mad)
    then in_segment (rmpp_in mad).segment_number (noted_records (notes_after ports own payload state notes own.guid))
    else if is_request payload
    then noted_reply ports own state.remembered (request_in payload) (outcome ports own state.remembered (request_in payload))
    else []

pub record NotedMad : Type 0 where
  pub mad : List ℕ
  pub bytes : List NotedByte

pub record NotedAnswer : Type 0 where
  pub mads : List NotedMad
  pub state : Administration
  pub notes : Notes

abbrev pub answer_noted : List SubnetPort → SubnetPort → List ℕ → Administration → Notes → NotedAnswer
answer_noted ports own payload state notes = record {
  mads = map (λ mad. record { mad = mad; bytes = noted_bytes ports own payload state notes mad }) (answer ports own payload state).0;
  state = (answer ports own payload state).1;
  notes = notes_after ports own payload state notes;
}
