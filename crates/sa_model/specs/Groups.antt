-- What subnet administration remembers of multicast groups (IBA volume 1, 15.2.5).
use Rattle.std.specs.Prelude.{ℕ, ◌+◌, ◌*◌, Bool, nat_lt, List, [], ◌∷◌, Option, Some, None}
use Rattle.std.specs.Int.Digits.{number_from_digits}
use Rattle.partition_file.specs.declared.broadcast_group.BroadcastGroup.{BroadcastGroup}
use Rattle.partition_file.specs.declared.heading.Heading.{Heading}
use Rattle.partition_file.specs.Partitions.{mgid_of}
use Rattle.subnet_model.specs.Configuration.{ConfigurationState}
use Rattle.sa_model.specs.JoinState.{JoinState}

-- who made a group: the port of a GUID, or the partition file
pub data Creator : Type 0 where
  Port : ℕ → Creator
  PartitionFile : Creator

-- what is fixed for a group when it is made, as an MCMemberRecord codes it
pub record GroupParameters : Type 0 where
  pub q_key : ℕ
  pub mtu : ℕ
  pub traffic_class : ℕ
  pub rate : ℕ
  pub packet_life_time : ℕ
  pub service_level : ℕ
  pub flow_label : ℕ
  pub hop_limit : ℕ
  pub scope : ℕ

-- the port of this GUID takes part in a group
pub record Membership : Type 0 where
  pub port : ℕ
  pub join_state : JoinState

-- the memberships of a group stand by the GUIDs of their ports
abbrev pub lower_port : Membership → Membership → Bool
lower_port a b = nat_lt a.port b.port

-- a group: its MGID as one number, its MLID, and its memberships by port
pub record MulticastGroup : Type 0 where
  pub mgid : ℕ
  pub mlid : ℕ
  pub parameters : GroupParameters
  pub creator : Creator
  pub memberships : List Membership

-- the groups of the partition of this number and base, by MLID
pub record PartitionGroups : Type 0 where
  pub number : ℕ
  pub base : ℕ
  pub groups : List MulticastGroup

-- each partition has 32 MLIDs of its own, and this is the first of them
abbrev pub first_mlid : ℕ → ℕ
first_mlid number = 0xc000 + 32 * number

-- ---- the start: what the partition file makes, and nobody in it
-- a broadcast group that the partition file asks for lives as long as its defaults say
abbrev pub file_parameters : BroadcastGroup → GroupParameters
file_parameters group = record {
  q_key = group.q_key;
  mtu = group.mtu;
  traffic_class = 0;
  rate = group.rate;
  packet_life_time = 18;
  service_level = group.service_level;
  flow_label = 0;
  hop_limit = 0;
  scope = group.scope;
}

abbrev pub file_groups : ℕ → ℕ → Option BroadcastGroup → List MulticastGroup
file_groups number base None = []
file_groups number base (Some group) = record {
  mgid = number_from_digits 256 (mgid_of group.scope base);
  mlid = first_mlid number;
  parameters = file_parameters group;
  creator = Creator.PartitionFile;
  memberships = [];
} ∷ []

-- the place of a partition in the list is its number
abbrev pub start_from : ℕ → List Heading → List PartitionGroups
start_from number [] = []
start_from number (heading ∷ headings) =
    record { number = number; base = heading.base; groups = file_groups number heading.base heading.group }
    ∷ start_from (number + 1) headings

-- at the start there are the groups of the partition file, and nothing else
abbrev pub start_of : ConfigurationState → List PartitionGroups
start_of configuration = start_from 0 configuration.partitions
