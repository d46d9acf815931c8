-- What joins do to slots.
use Rattle.std.specs.Prelude.{ℕ, ◌==◌, Bool, true, false, if◌then◌else◌, [], map, Option, None, Some}
use Rattle.std.specs.List.{list_any}
use Rattle.std.specs.Option.{option_map_or}
use Rattle.sa_model.specs.Anchor.{free_mlid}
use Rattle.sa_model.specs.Groups.{Creator, PartitionGroups, lower_port}
use Rattle.sa_model.specs.Joining.{Join, has_mgid, joined_group, with_created, with_member}
use Rattle.sa_model.specs.Sound.{pairwise}
use Rattle.sa_store.specs.MlidRange.{SlotGroup}

-- the group in a slot has this MGID
abbrev pub holds_mgid : ℕ → Option SlotGroup → Bool
holds_mgid mgid slot = option_map_or (λ group. group.mgid == mgid) slot false

-- its memberships stand by port
abbrev pub is_in_order : Option SlotGroup → Bool
is_in_order slot = option_map_or (λ group. pairwise lower_port group.memberships) slot true

-- it is joined
abbrev pub joined_slot : Join → Option SlotGroup → Option SlotGroup
joined_slot join None = None
joined_slot join (Some group) = Some (record group { memberships = with_member join group.memberships })

-- a group that a join makes
abbrev pub founded : Join → SlotGroup
founded join = record {
  mgid = join.mgid;
  parameters = join.parameters;
  creator = Creator.Port join.port;
  memberships = with_member join [];
}

-- ---- the groups of the partition of a join that is not refused: its group is there, or it is made
abbrev pub entered : Join → PartitionGroups → PartitionGroups
entered join partition = record partition {
  groups = if list_any (has_mgid join.mgid) partition.groups
      then map (joined_group join) partition.groups
      else with_created join (free_mlid partition) partition.groups;
}
