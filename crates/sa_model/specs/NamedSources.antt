-- What a record comes from is reported by the record itself, and of a group by what is remembered.
use Rattle.std.specs.Prelude.{ℕ, ◌≡◌, ◌==◌, Bool, true, false, ◌&&◌, List, Option}
use Rattle.std.specs.List.{AllByRecursion, list_any}
use Rattle.pkey_rules.specs.PKey.{key_of}
use Rattle.sa_records.specs.declared.sa_record.SaRecord.{SaRecord}
use Rattle.sa_records.specs.declared.sa_record.SaRecord.TheVariants as sa_record
use Rattle.sa_records.specs.declared.mc_member_record.McMemberRecord.{McMemberRecord}
use Rattle.subnet_model.specs.declared.subnet_port.SubnetPort.{SubnetPort}
use Rattle.sa_model.specs.Groups.{Creator, MulticastGroup, PartitionGroups}
use Rattle.sa_model.specs.Gid.{gid_of}
use Rattle.sa_model.specs.Visible.{SaState}
use Rattle.sa_model.specs.Shown.{Entry}
use Rattle.sa_model.specs.Selected.{Query, selected}

-- ---- a group's record names its group by key, MGID and MLID; what is remembered says who made that
abbrev pub same_creator : Creator → Creator → Bool
same_creator (Creator.Port a) (Creator.Port b) = a == b
same_creator (Creator.Port a) Creator.PartitionFile = false
same_creator Creator.PartitionFile (Creator.Port b) = false
same_creator Creator.PartitionFile Creator.PartitionFile = true

abbrev pub is_record_of : McMemberRecord → ℕ → MulticastGroup → Bool
is_record_of shown base group = (key_of base true == shown.p_key) && ((group.mgid == shown.mgid) && (group.mlid == shown.mlid))

abbrev pub is_made_by : List PartitionGroups → McMemberRecord → Creator → Bool
is_made_by partitions shown source =
    list_any (λ partition.
    list_any (λ group. is_record_of shown partition.base group && same_creator group.creator source) partition.groups) partitions

-- ---- a node comes from the port of its PortGUID, a path from that of its DGID, a service from that of its ServiceGID, and a
-- group from who made it
abbrev pub ComesFrom : SaState → SaRecord → Creator → Type 0
ComesFrom state (sa_record.Node shown) source = source ≡ Creator.Port shown.port_guid
ComesFrom state (sa_record.Path shown) source = (guid : ℕ) × (shown.dgid ≡ gid_of guid) × (source ≡ Creator.Port guid)
ComesFrom state (sa_record.Group shown) source = is_made_by state.partitions shown source ≡ true
ComesFrom state (sa_record.Service shown) source = (guid : ℕ) × (shown.service_gid ≡ gid_of guid) × (source ≡ Creator.Port guid)

-- ---- what is proved of a rule for what is selected: each record has the source that it comes from
abbrev pub SelectRule : Type 0
SelectRule = List SubnetPort → SubnetPort → SaState → Query → List Entry

abbrev pub SaysTheSource : SelectRule → Type 0
SaysTheSource rule =
    (ports : List SubnetPort) (own : SubnetPort) (state : SaState) (query : Query)
    → AllByRecursion (λ entry. ComesFrom state entry.shown entry.source) (rule ports own state query)

-- it holds of ours, of paths as many to each port as may be
abbrev pub SelectedSayTheirSource : Type 0
SelectedSayTheirSource = (most : Option ℕ) → SaysTheSource (selected most)
