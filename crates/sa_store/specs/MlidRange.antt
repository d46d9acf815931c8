-- The multicast groups of a partition in their slots: one for each of its 32 MLIDs.
use Rattle.std.specs.Prelude.{ℕ, ◌≡◌, ◌<◌, ◌+◌, ◌*◌, true, List, [], ◌∷◌, Option, Some, None, length}
use Rattle.std.specs.Int.Digits.{number_from_digits}
use Rattle.partition_file.specs.declared.broadcast_group.BroadcastGroup.{BroadcastGroup}
use Rattle.partition_file.specs.Partitions.{mgid_of}
use Rattle.pkey_rules.specs.PKey.{is_base}
use Rattle.pkey_rules.specs.declared.key_table.TheConstants.{PARTITIONS}
use Rattle.sa_model.specs.Groups.{Creator as MadeBy, GroupParameters as Parameters, Membership as MemberOf}
use Rattle.sa_model.specs.Groups.{MulticastGroup, PartitionGroups}
use Rattle.sa_model.specs.Groups.{file_parameters, first_mlid}
use Rattle.sa_store.specs.declared.group.Creator.{Creator}
use Rattle.sa_store.specs.declared.group.Creator.TheVariants.{Port, PartitionFile}
use Rattle.sa_store.specs.declared.group.GroupParameters.{GroupParameters as Kept}

-- who made a group
abbrev pub maker_of : Creator → MadeBy
maker_of (Port guid) = MadeBy.Port guid
maker_of PartitionFile = MadeBy.PartitionFile

abbrev pub parameters_of : Kept → Parameters
parameters_of kept = record {
  q_key = kept.q_key;
  mtu = kept.mtu;
  traffic_class = kept.traffic_class;
  rate = kept.rate;
  packet_life_time = kept.packet_life_time;
  service_level = kept.service_level;
  flow_label = kept.flow_label;
  hop_limit = kept.hop_limit;
  scope = kept.scope;
}

-- a group in its slot: all of it but its MLID, which its slot reports
pub record SlotGroup : Type 0 where
  pub mgid : ℕ
  pub parameters : Parameters
  pub creator : MadeBy
  pub memberships : List MemberOf

abbrev pub with_mlid : ℕ → SlotGroup → MulticastGroup
with_mlid mlid group = record {
  mgid = group.mgid;
  mlid = mlid;
  parameters = group.parameters;
  creator = group.creator;
  memberships = group.memberships;
}

-- the groups of slots, the first of which has this MLID
abbrev pub groups_in : ℕ → List (Option SlotGroup) → List MulticastGroup
groups_in mlid [] = []
groups_in mlid (None ∷ slots) = groups_in (mlid + 1) slots
groups_in mlid (Some group ∷ slots) = with_mlid mlid group ∷ groups_in (mlid + 1) slots

-- the set of the free ones, the first in its lowest bit
abbrev pub free_slots : List (Option SlotGroup) → ℕ
free_slots [] = 0
free_slots (None ∷ slots) = 1 + 2 * free_slots slots
free_slots (Some group ∷ slots) = 2 * free_slots slots

-- a partition has one of the numbers that there are, a base, and a slot for each of its MLIDs, and the set reports which are free
pub record AreSlots (number base : ℕ) (slots : List (Option SlotGroup)) (free : ℕ) : Type 0 where
  pub numbered : number < PARTITIONS
  pub based : is_base base ≡ true
  pub all : length slots ≡ 32
  pub reported : free ≡ free_slots slots

abbrev pub partition_in : ℕ → ℕ → List (Option SlotGroup) → PartitionGroups
partition_in number base slots = record { number = number; base = base; groups = groups_in (first_mlid number) slots }

-- the group that the partition file makes in the partition of a base: in the first slot, and all others are free
abbrev pub file_group : ℕ → Option BroadcastGroup → Option SlotGroup
file_group base None = None
file_group base (Some group) = Some (record {
  mgid = number_from_digits 256 (mgid_of group.scope base);
  parameters = file_parameters group;
  creator = MadeBy.PartitionFile;
  memberships = [];
})
