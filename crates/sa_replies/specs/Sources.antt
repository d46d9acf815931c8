-- Where the records come from that answer: all of them, as they are noted; those of joins and of services that are set.
use Rattle.std.specs.Prelude.{ℕ, ◌≡◌, ◌<◌, ◌-◌, ◌^◌, Bool, true, false, not, ◌&&◌, ◌||◌}
use Rattle.std.specs.Prelude.{List, [], ◌∷◌, ◌++◌, find, length, map, replicate, Option, Some, None, Ok}
use Rattle.std.specs.Int.Digits.{AllBelowBase}
use Rattle.std.specs.List.{AllByRecursion, flat_map, list_all}
use Rattle.pkey_rules.specs.PKey.{base_of}
use Rattle.mad_layout.specs.SaMad.{data_in}
use Rattle.rmpp_core.specs.Segments.{Transfer, payload_size}
use Rattle.sa_model.specs.Groups.{Membership, MulticastGroup}
use Rattle.sa_model.specs.Joining.{is_of}
use Rattle.sa_model.specs.JoinState.{JoinState}
use Rattle.sa_model.specs.Sound.{is_sound}
use Rattle.sa_records.specs.McMemberRecord.{mc_member_record_bytes}
use Rattle.sa_records.specs.declared.mc_member_record.McMemberRecord.{McMemberRecord}
use Rattle.sa_records.specs.ServiceRecord.{service_record_bytes}
use Rattle.sa_records.specs.declared.service_record.ServiceRecord.{ServiceRecord}
use Rattle.subnet_model.specs.Delivery.{port_with_guid}
use Rattle.subnet_model.specs.declared.subnet_port.SubnetPort.{SubnetPort}
use Rattle.subnet_model.specs.Near.{is_near}
use Rattle.sa_model.specs.Shown.{Entry, service_record_of}
use Rattle.sa_model.specs.QueryLaws.{come_from_near, is_source_near}
use Rattle.sa_model.specs.Visible.{SaState, ServiceOfPort}
use Rattle.sa_replies.specs.Joins.{group_named, join_outcome, join_state_of, member_record}
use Rattle.sa_replies.specs.ServiceRequests.{service_set}
use Rattle.sa_replies.specs.Success.{Success}
use Rattle.sa_replies.specs.Transfers.{CanBeSent, PortTransfer, table_of}
use Rattle.sa_replies.specs.Answer.{Administration, Answered, answer}
use Rattle.sa_records.specs.SaRecord.{record_bytes}
use Rattle.sa_replies.specs.Notes.{NotedByte, NotedMad, Notes, NotedAnswer, answer_noted}

-- ---- what is noted stands beside the answer, and changes nothing of it
pub record StandsBeside (noted : NotedAnswer) (answered : Answered) : Type 0 where
  pub mads : map (λ one. one.mad) noted.mads ≡ answered.0
  pub state : noted.state ≡ answered.1

abbrev pub NotesStandBeside : Type 0
NotesStandBeside =
    (ports : List SubnetPort) (own : SubnetPort) (payload : List ℕ) (state : Administration) (notes : Notes)
    → StandsBeside (answer_noted ports own payload state notes) (answer ports own payload state)

-- ---- the records that are noted for a port encode the table that is open to it
abbrev pub Encode : List Entry → Option Transfer → Type 0
Encode entries None = Unit {0}
Encode entries (Some transfer) = transfer.bytes ≡ flat_map (λ entry. record_bytes entry.shown) entries

abbrev pub EncodeTables : Notes → List PortTransfer → Type 0
EncodeTables notes [] = Unit {0}
EncodeTables notes (place ∷ places) = Encode (notes place.port) place.open_table × EncodeTables notes places

-- every answer leaves it so
abbrev pub NotesEncodeTables : Type 0
NotesEncodeTables =
    (ports : List SubnetPort) (own : SubnetPort) (payload : List ℕ) (state : Administration) (notes : Notes)
    → EncodeTables notes state.transfers
    → EncodeTables (answer_noted ports own payload state notes).notes (answer_noted ports own payload state notes).state.transfers

-- ---- the bytes that are noted of a MAD are its data, whose rest is 0
abbrev pub filled : List ℕ → List ℕ
filled bytes = bytes ++ replicate (200 - length bytes) 0

abbrev pub HoldsNoted : NotedMad → Type 0
HoldsNoted one = data_in one.mad ≡ filled (map (λ one. one.byte) one.bytes)

-- what is proved of a rule for answers with notes: so it is with each MAD that answers a MAD, if the numbers of the table that is
-- open to the port fit their fields, and the length of the records that are noted for it then can be reported in 32 bits
abbrev pub NotedRule : Type 0
NotedRule = List SubnetPort → SubnetPort → List ℕ → Administration → Notes → NotedAnswer

abbrev pub NotesItsData : NotedRule → Type 0
NotesItsData rule =
    (ports : List SubnetPort) (own : SubnetPort) (payload : List ℕ) (state : Administration) (notes : Notes)
    → AllBelowBase 256 payload → CanBeSent (table_of own.guid state.transfers) → EncodeTables notes state.transfers
    → payload_size (flat_map (λ entry. record_bytes entry.shown) ((rule ports own payload state notes).notes own.guid)) < 2 ^ 32
    → AllByRecursion HoldsNoted (rule ports own payload state notes).mads

-- it holds of ours
abbrev pub AnswersNoteTheirData : Type 0
AnswersNoteTheirData = NotesItsData answer_noted

-- ---- and it is proved for the port that asks: all that it is reported comes from near it or from the partition file, now and as its
-- table is sent
abbrev pub bytes_from_near : List SubnetPort → ℕ → List NotedByte → Bool
bytes_from_near ports p bytes = list_all (λ one. is_source_near ports p one.source) bytes

abbrev pub NotesFromNear : List SubnetPort → Notes → Type 0
NotesFromNear ports notes = (p : ℕ) → come_from_near ports p (notes p) ≡ true

pub record IsFromNear (ports : List SubnetPort) (own : SubnetPort) (noted : NotedAnswer) : Type 0 where
  pub mads : list_all (λ one. bytes_from_near ports own.guid one.bytes) noted.mads ≡ true
  pub notes : NotesFromNear ports noted.notes

abbrev pub ReportsFromNear : NotedRule → Type 0
ReportsFromNear rule =
    (ports : List SubnetPort) (own : SubnetPort) (payload : List ℕ) (state : Administration) (notes : Notes)
    → port_with_guid ports own.guid ≡ Some own → is_sound ports state.remembered.partitions ≡ true → NotesFromNear ports notes
    → IsFromNear ports own (rule ports own payload state notes)

-- it holds of ours
abbrev pub AnswersReportFromNear : Type 0
AnswersReportFromNear = ReportsFromNear answer_noted

-- ---- joins
-- each bit that is asked is held
abbrev pub has_each_bit_of : JoinState → JoinState → Bool
has_each_bit_of asked held =
    (not asked.full_member || held.full_member)
    && ((not asked.non_member || held.non_member) && (not asked.send_only_non_member || held.send_only_non_member))

-- this membership is there, with each bit that is asked
abbrev pub takes_part_with : JoinState → Option Membership → Bool
takes_part_with asked (Some membership) = has_each_bit_of asked membership.join_state
takes_part_with asked None = false

-- after this join the group is there, and the port takes part in it with each bit that it asked for; these bytes are the
-- port's record of it, and the group comes from a port near it or from the partition file
pub record IsJoined (ports : List SubnetPort) (own : SubnetPort) (asked : McMemberRecord) (next : SaState) (bytes : List ℕ) : Type 0 where
  pub group : MulticastGroup
  pub there : group_named (base_of asked.p_key) asked.mgid next.partitions ≡ Some group
  pub takes_part : takes_part_with (join_state_of asked.join_state) (find (is_of own.guid) group.memberships) ≡ true
  pub encoded : bytes ≡ mc_member_record_bytes (member_record own (base_of asked.p_key) group)
  pub source : is_source_near ports own.guid group.creator ≡ true

-- so it is with the reply to a join
abbrev pub JoinRepliesComeFromNear : Type 0
JoinRepliesComeFromNear =
    (ports : List SubnetPort) (own : SubnetPort) (state next : SaState) (mask : ℕ) (asked : McMemberRecord) (bytes : List ℕ)
    → port_with_guid ports own.guid ≡ Some own → is_sound ports state.partitions ≡ true
    → join_outcome ports own state mask asked ≡ Ok (Success.one_reply bytes next) → IsJoined ports own asked next bytes

-- ---- services that are set
-- these bytes are the record of a service of a port near this one
pub record IsOfServiceFromNear (ports : List SubnetPort) (p : ℕ) (bytes : List ℕ) : Type 0 where
  pub service : ServiceOfPort
  pub encoded : bytes ≡ service_record_bytes (service_record_of service)
  pub source : is_near ports p service.port ≡ true

-- so it is with the reply to the Set of a service
abbrev pub ServiceRepliesComeFromNear : Type 0
ServiceRepliesComeFromNear =
    (ports : List SubnetPort) (own : SubnetPort) (state next : SaState) (mask : ℕ) (asked : ServiceRecord) (bytes : List ℕ)
    → service_set own state mask asked ≡ Ok (Success.one_reply bytes next) → IsOfServiceFromNear ports own.guid bytes
