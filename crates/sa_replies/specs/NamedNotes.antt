-- What is noted of the records that a port asks for is what they are, each with the source that the record itself names; and
-- so it is with the replies to Sets and Deletes.
use Rattle.std.specs.Prelude.{ℕ, ◌≡◌, ◌⊎◌, true, false, List, map, Option, Some}
use Rattle.std.specs.List.{AllByRecursion, flat_map}
use Rattle.mad_layout.specs.Layout.{Fits}
use Rattle.mad_layout.specs.RmppHeader.{rmpp_in}
use Rattle.mad_layout.specs.declared.method.Method.TheVariants.{Get, Set, Delete}
use Rattle.pkey_rules.specs.PKey.{base_of}
use Rattle.rmpp_core.specs.Receiving.{is_data}
use Rattle.sa_model.specs.Groups.{Creator, MulticastGroup, PartitionGroups}
use Rattle.subnet_model.specs.declared.subnet_port.SubnetPort.{SubnetPort}
use Rattle.sa_model.specs.NamedSources.{ComesFrom}
use Rattle.sa_model.specs.Shown.{Entry, group_entry, node_entry, path_entry, service_entry}
use Rattle.sa_model.specs.Visible.{SaState, visible_groups, visible_nodes, visible_paths, visible_services}
use Rattle.sa_records.specs.McMemberRecord.{group_in, mc_member_record}
use Rattle.sa_records.specs.NodeRecord.{node_record}
use Rattle.sa_records.specs.PathRecord.{path_record}
use Rattle.sa_records.specs.SaRecord.{record_bytes}
use Rattle.sa_records.specs.ServiceRecord.{service_record}
use Rattle.sa_records.specs.declared.sa_record.SaRecord.{SaRecord}
use Rattle.sa_records.specs.declared.sa_record.SaRecord.TheVariants as sa_record
use Rattle.sa_replies.specs.Answer.{Administration}
use Rattle.sa_replies.specs.Changed.{asks_for_group}
use Rattle.sa_replies.specs.Joins.{group_named}
use Rattle.sa_replies.specs.Laws.{asks_by, asks_for_service}
use Rattle.sa_replies.specs.Notes.{NotedAnswer, NotedByte, NotedMad, Notes, answer_noted, in_segment}
use Rattle.sa_replies.specs.Request.{request_in}
use Rattle.sa_replies.specs.Sources.{NotedRule}

-- the bytes of records, each with the source of its record
abbrev pub encoded : List Entry → List NotedByte
encoded entries = flat_map (λ entry. map (λ byte. record { byte = byte; source = entry.source }) (record_bytes entry.shown)) entries

-- each value of a record is narrow enough for its field
abbrev pub IsFit : SaRecord → Type 0
IsFit (sa_record.Node one) = Fits (node_record one)
IsFit (sa_record.Path one) = Fits (path_record one)
IsFit (sa_record.Group one) = Fits (mc_member_record one)
IsFit (sa_record.Service one) = Fits (service_record one)

abbrev pub AreFit : List Entry → Type 0
AreFit entries = AllByRecursion (λ entry. IsFit entry.shown) entries

-- all that is visible to a port fits
pub record VisibleFits (ports : List SubnetPort) (own : SubnetPort) (state : SaState) : Type 0 where
  pub nodes : AreFit (map node_entry (visible_nodes ports own))
  pub paths : AreFit (map path_entry (visible_paths ports own))
  pub groups : AreFit (map group_entry (visible_groups own state.partitions))
  pub services : AreFit (map service_entry (visible_services ports own state.services))

-- each record comes from the source that stands beside it, by what is remembered; and it fits, if all that is visible does
pub record AreNamed (ports : List SubnetPort) (own : SubnetPort) (state : SaState) (entries : List Entry) : Type 0 where
  pub each : AllByRecursion (λ entry. ComesFrom state entry.shown entry.source) entries
  pub fit : VisibleFits ports own state → AreFit entries

pub record AreOfNamed (ports : List SubnetPort) (own : SubnetPort) (state : SaState) (bytes : List NotedByte) : Type 0 where
  pub entries : List Entry
  pub named : AreNamed ports own state entries
  pub encoded : bytes ≡ encoded entries

-- a segment has its part of the records that are noted for the port then
abbrev pub IsSegmentOf : List Entry → NotedMad → Type 0
IsSegmentOf entries one = is_data (rmpp_in one.mad) ≡ true → one.bytes ≡ in_segment (rmpp_in one.mad).segment_number (encoded entries)

abbrev pub IsReplyOf : List SubnetPort → SubnetPort → SaState → NotedMad → Type 0
IsReplyOf ports own state one = is_data (rmpp_in one.mad) ≡ false → AreOfNamed ports own state one.bytes

-- the group that a request names by P_Key and MGID
abbrev pub group_asked_for : List ℕ → List PartitionGroups → Option MulticastGroup
group_asked_for payload partitions =
    group_named (base_of (group_in (request_in payload).content).p_key) (group_in (request_in payload).content).mgid partitions

-- all data of a reply come from this source
abbrev pub IsAllOf : Creator → NotedMad → Type 0
IsAllOf source one =
    is_data (rmpp_in one.mad) ≡ false → AllByRecursion (λ (noted : NotedByte). noted.source ≡ source) one.bytes

-- what is noted for the port that asks stays, or is named so; what is noted for any other stays
abbrev pub StaysOrNamed : List SubnetPort → SubnetPort → SaState → (before after : Notes) → (p : ℕ) → Type 0
StaysOrNamed ports own state before after p = (after p ≡ before p) ⊎ ((p ≡ own.guid) × AreNamed ports own state (after p))

-- so it is; segments have their parts of what is noted for the port that asks; and so it is with the reply to a Get.
-- The reply to a join comes from who made the group, as it is after it; those to the Set of a service and to a Delete come
-- from the port that asks
pub record IsNamed (ports : List SubnetPort) (own : SubnetPort) (payload : List ℕ) (state : Administration) (notes : Notes)
    (noted : NotedAnswer) : Type 0 where
  pub noted_for : (p : ℕ) → StaysOrNamed ports own state.remembered notes noted.notes p
  pub segments : AllByRecursion (IsSegmentOf (noted.notes own.guid)) noted.mads
  pub got : asks_by Get payload ≡ true → AllByRecursion (IsReplyOf ports own state.remembered) noted.mads
  pub joined : (group : MulticastGroup) → asks_for_group Set payload ≡ true
      → group_asked_for payload noted.state.remembered.partitions ≡ Some group → AllByRecursion (IsAllOf group.creator) noted.mads
  pub set : asks_for_service Set payload ≡ true → AllByRecursion (IsAllOf (Creator.Port own.guid)) noted.mads
  pub deleted : asks_by Delete payload ≡ true → AllByRecursion (IsAllOf (Creator.Port own.guid)) noted.mads

abbrev pub NamesSources : NotedRule → Type 0
NamesSources rule =
    (ports : List SubnetPort) (own : SubnetPort) (payload : List ℕ) (state : Administration) (notes : Notes)
    → IsNamed ports own payload state notes (rule ports own payload state notes)

-- it holds of ours
abbrev pub NotesNameSources : Type 0
NotesNameSources = NamesSources answer_noted
