-- Groups, as they are gone through: partition by partition, and slot by slot.
use Rattle.std.specs.Prelude.{ℕ, Bool, false, true, ◌==◌, ◌&&◌, if◌then◌else◌, List, [], map, Option, Some, None}
use Rattle.pkey_rules.specs.PKey.{key_of}
use Rattle.pkey_rules.specs.KeyTable.{same_base}
use Rattle.sa_records.specs.declared.mc_member_record.McMemberRecord.{McMemberRecord}
use Rattle.sa_records.specs.Component.{on, passes}
use Rattle.sa_records.specs.McMemberRecord.{mc_member_record_bytes}
use Rattle.subnet_model.specs.declared.subnet_port.SubnetPort.{SubnetPort}
use Rattle.sa_model.specs.Groups.{MulticastGroup, PartitionGroups}
use Rattle.sa_model.specs.Members.{is_in}
use Rattle.sa_model.specs.Sound.{is_in_range}
use Rattle.sa_model.specs.Selected.{groups_selected}
use Rattle.sa_model.specs.Shown.{group_record_of}
use Rattle.sa_model.specs.Visible.{GroupOfBase, groups_of}
use Rattle.sa_store.specs.MlidRange.{SlotGroup, groups_in}
use Rattle.sa_records.specs.McMemberMask as member_mask

-- ---- a group as it is shown
abbrev pub group_bytes : GroupOfBase → List ℕ
group_bytes one = mc_member_record_bytes (group_record_of one)

-- ---- the groups of a partition that agree with a request, if the port is in it
abbrev pub groups_shown : SubnetPort → ℕ → McMemberRecord → PartitionGroups → List GroupOfBase
groups_shown own mask asked partition = if is_in own partition.base then groups_selected mask asked (groups_of partition) else []

-- their bytes
abbrev pub groups_reported : SubnetPort → ℕ → McMemberRecord → PartitionGroups → List (List ℕ)
groups_reported own mask asked partition = map group_bytes (groups_shown own mask asked partition)

-- a group of the partition of this base
abbrev pub group_of : ℕ → MulticastGroup → GroupOfBase
group_of base group = record { base = base; group = group }

-- those of some slots, the first of which has this MLID, that agree
abbrev pub groups_agreeing : ℕ → McMemberRecord → (base mlid : ℕ) → List (Option SlotGroup) → List GroupOfBase
groups_agreeing mask asked base mlid slots = groups_selected mask asked (map (group_of base) (groups_in mlid slots))

-- ---- what is looked at, and not passed over: a partition that the port is in and that the request does not leave out by a
-- P_Key or an MLID
abbrev pub is_searched : SubnetPort → ℕ → McMemberRecord → PartitionGroups → Bool
is_searched own mask asked partition =
    passes mask (on member_mask.p_key (same_base (key_of partition.base true) asked.p_key))
    && (passes mask (on member_mask.mlid (is_in_range partition.number asked.mlid)) && is_in own partition.base)

-- the slot of an MLID, if there is a group in it, which the request does not leave out by the MLID or an MGID
abbrev pub is_named : ℕ → McMemberRecord → ℕ → Option SlotGroup → Bool
is_named mask asked mlid None = false
is_named mask asked mlid (Some group) =
    passes mask (on member_mask.mgid (group.mgid == asked.mgid)) && passes mask (on member_mask.mlid (mlid == asked.mlid))
