-- Whom a packet reaches, if its destination may be a multicast group.
use Rattle.std.specs.Prelude.{ℕ, Bool, ◌==◌, ◌&&◌, List}
use Rattle.std.specs.List.{list_any}
use Rattle.subnet_model.specs.declared.subnet_port.SubnetPort.{SubnetPort}
use Rattle.subnet_model.specs.declared.command.SendCommand.{SendCommand}
use Rattle.subnet_model.specs.Delivery.{reaches_joined}
use Rattle.sa_model.specs.JoinState.{is_receiver}
use Rattle.sa_model.specs.Groups.{Membership, PartitionGroups}
use Rattle.sa_model.specs.Joining.{is_of}

-- by this membership the port of this GUID receives what is sent to the group
abbrev pub receives : ℕ → Membership → Bool
receives guid membership = is_of guid membership && is_receiver membership.join_state

abbrev pub receives_in : ℕ → ℕ → PartitionGroups → Bool
receives_in mlid guid partition =
    list_any (λ group. (group.mlid == mlid) && list_any (receives guid) group.memberships) partition.groups

-- the port receives what is sent to this MLID, whatever the partition of its group
abbrev pub is_receiver_of : List PartitionGroups → ℕ → ℕ → Bool
is_receiver_of partitions mlid guid = list_any (receives_in mlid guid) partitions

-- whom a packet reaches, if ports have joined these groups
abbrev pub reaches_by_groups : List PartitionGroups → SendCommand → SubnetPort → Bool
reaches_by_groups partitions command port = reaches_joined (is_receiver_of partitions command.dlid) command port
