-- What holds of the multicast groups of every subnet.
use Rattle.std.specs.Prelude.{ℕ, ◌≡◌, true, false, ◌==◌, ◌&&◌, List, Some, None, map}
use Rattle.std.specs.List.{list_any}
use Rattle.subnet_model.specs.declared.subnet_port.SubnetPort.{SubnetPort}
use Rattle.subnet_model.specs.declared.command.SendCommand.{SendCommand}
use Rattle.subnet_model.specs.Delivery.{port_with_guid, refusal_of}
use Rattle.subnet_model.specs.Near.{is_near}
use Rattle.subnet_model.specs.Configuration.{ConfigurationState}
use Rattle.sa_model.specs.Groups.{PartitionGroups, start_of}
use Rattle.sa_model.specs.Joining.{Join, joined}
use Rattle.sa_model.specs.Leaving.{Leave, left}
use Rattle.sa_model.specs.Changes.{Change, partition_of, changed, after_changes, changes_near}
use Rattle.sa_model.specs.Delivery.{reaches_by_groups}
use Rattle.sa_model.specs.Sound.{is_sound_partition, is_sound}
use Rattle.sa_model.specs.Sight.{Alike}

-- every start is sound
abbrev pub StartsAreSound : Type 0
StartsAreSound = (ports : List SubnetPort) (configuration : ConfigurationState) → is_sound ports (start_of configuration) ≡ true

-- and joins and leaves keep groups sound
abbrev pub JoinsKeepSound : Type 0
JoinsKeepSound =
    (ports : List SubnetPort) (join : Join) (partitions : List PartitionGroups) → is_sound ports partitions ≡ true
    → is_sound ports (joined ports join partitions) ≡ true

abbrev pub LeavesKeepSound : Type 0
LeavesKeepSound =
    (ports : List SubnetPort) (leave : Leave) (partitions : List PartitionGroups) → is_sound ports partitions ≡ true
    → is_sound ports (left ports leave partitions) ≡ true

-- partitions of different numbers have no MLID in common: so an MLID that no group of its partition has is free
abbrev pub MlidsReportPartitions : Type 0
MlidsReportPartitions =
    (ports : List SubnetPort) (a b : PartitionGroups) (mlid : ℕ) → is_sound_partition ports a ≡ true
    → is_sound_partition ports b ≡ true → (a.number == b.number) ≡ false
    → list_any (λ group. group.mlid == mlid) a.groups ≡ true → list_any (λ group. group.mlid == mlid) b.groups ≡ false

-- neither changes which partitions there are
abbrev pub PartitionsStay : Type 0
PartitionsStay =
    (ports : List SubnetPort) (partitions : List PartitionGroups) (change : Change)
    → map partition_of (changed ports partitions change) ≡ map partition_of partitions

-- a join of a port that is far from p leaves what p sees as it was
abbrev pub FarJoinsAreNotSeen : Type 0
FarJoinsAreNotSeen =
    (ports : List SubnetPort) (p : ℕ) (join : Join) (s t : List PartitionGroups) → is_near ports p join.port ≡ false
    → Alike ports p s t → Alike ports p (joined ports join s) t

-- one of a port near p leaves what p sees the same if it was the same
abbrev pub NearJoinsAreSeenAlike : Type 0
NearJoinsAreSeenAlike =
    (ports : List SubnetPort) (p : ℕ) (join : Join) (s t : List PartitionGroups) → is_near ports p join.port ≡ true
    → Alike ports p s t → Alike ports p (joined ports join s) (joined ports join t)

-- a leave of a port that is far from p leaves what p sees as it was
abbrev pub FarLeavesAreNotSeen : Type 0
FarLeavesAreNotSeen =
    (ports : List SubnetPort) (p : ℕ) (leave : Leave) (s t : List PartitionGroups) → is_near ports p leave.port ≡ false
    → Alike ports p s t → Alike ports p (left ports leave s) t

-- one of any port leaves what p sees the same if it was the same
abbrev pub LeavesAreSeenAlike : Type 0
LeavesAreSeenAlike =
    (ports : List SubnetPort) (p : ℕ) (leave : Leave) (s t : List PartitionGroups) → Alike ports p s t
    → Alike ports p (left ports leave s) (left ports leave t)

-- so after any joins and leaves p sees what it would see after those of the ports near it alone
abbrev pub GroupsDependOnNear : Type 0
GroupsDependOnNear =
    (configuration : ConfigurationState) (p : ℕ) (changes : List Change)
    → Alike configuration.ports p (after_changes configuration.ports (start_of configuration) changes)
    (after_changes configuration.ports (start_of configuration) (changes_near configuration.ports p changes))

-- a packet that its port does not refuse to send reaches only ports near it, by LID or by groups
abbrev pub PacketsReachThoseNear : Type 0
PacketsReachThoseNear =
    (ports : List SubnetPort) (partitions : List PartitionGroups) (p : ℕ) (command : SendCommand) (sender : SubnetPort)
    → port_with_guid ports command.port_guid ≡ Some sender → refusal_of sender command ≡ None
    → list_any (λ port. (port.guid == p) && reaches_by_groups partitions command port) ports ≡ true
    → is_near ports p command.port_guid ≡ true

-- whether it reaches a port is the same in states that are alike to the port
abbrev pub PacketsReachAlike : Type 0
PacketsReachAlike =
    (ports : List SubnetPort) (s t : List PartitionGroups) (command : SendCommand) (port : SubnetPort)
    → Alike ports port.guid s t → reaches_by_groups s command port ≡ reaches_by_groups t command port
