-- Four adapters under a partition file of one line: the first is the subnet manager's, the second a full member of the
-- partition of base 1, the other two limited members of it.
use Rattle.std.specs.Prelude.{ℕ, true, false, List, [], ◌∷◌, Some, None, map, filter, flat_map, fold}
use Rattle.std.specs.List.{range_with_len}
use Rattle.subnet_model.specs.Examples.{adapter}
use Rattle.subnet_model.specs.declared.subnet_port.SubnetPort.{SubnetPort}
use Rattle.subnet_model.specs.declared.command.SendCommand.{SendCommand}
use Rattle.subnet_model.specs.Configuration.{ConfigurationState}
use Rattle.sa_model.specs.JoinState.{JoinState}
use Rattle.sa_model.specs.Groups.{GroupParameters, PartitionGroups, start_of}
use Rattle.sa_model.specs.Joining.{Join, joined}
use Rattle.sa_model.specs.Leaving.{Leave}
use Rattle.sa_model.specs.Delivery.{reaches_by_groups}

abbrev pub ports : List SubnetPort
ports =
    adapter 1 0x101 (0xffff ∷ [])
    ∷ adapter 4 0x111 (0x7fff ∷ 0x8001 ∷ [])
    ∷ adapter 5 0x121 (0x7fff ∷ 0x0001 ∷ [])
    ∷ adapter 6 0x131 (0x7fff ∷ 0x0001 ∷ [])
    ∷ []

abbrev pub configuration : ConfigurationState
configuration = record {
  ports = ports;
  partitions =
      record { base = 0x7fff; name = []; group = None }
      ∷ record { base = 1; name = []; group = None }
      ∷ [];
}

-- ---- what ports ask
abbrev pub full_member : JoinState
full_member = record { full_member = true; non_member = false; send_only_non_member = false }

abbrev pub parameters : GroupParameters
parameters = record {
  q_key = 0x1234;
  mtu = 4;
  traffic_class = 0;
  rate = 3;
  packet_life_time = 18;
  service_level = 0;
  flow_label = 0;
  hop_limit = 0;
  scope = 2;
}

abbrev pub join_of : ℕ → ℕ → Join
join_of port mgid = record { port = port; base = 1; mgid = mgid; join_state = full_member; parameters = parameters }

abbrev pub leave_of : ℕ → ℕ → Leave
leave_of port mgid = record { port = port; base = None; mgid = mgid; join_state = full_member }

abbrev pub mgid : ℕ
mgid = 0xff12000000000000000000000000000a

-- ---- the states
abbrev pub nobody : List PartitionGroups
nobody = start_of configuration

abbrev pub both : List PartitionGroups
both = joined ports (join_of 0x121 mgid) (joined ports (join_of 0x111 mgid) nobody)

-- 32 groups of MGIDs that follow one another
abbrev pub many : List PartitionGroups
many = fold (λ state n. joined ports (join_of 0x111 n) state) nobody (range_with_len mgid 32)

-- ---- what is looked at
abbrev pub mlids : List PartitionGroups → List ℕ
mlids partitions = flat_map (λ partition. map (λ group. group.mlid) partition.groups) partitions

abbrev pub members : List PartitionGroups → List ℕ
members partitions = flat_map (λ partition. flat_map (λ group. map (λ m. m.port) group.memberships) partition.groups) partitions

-- a packet of the third adapter to the first MLID of the partition, under its own key
abbrev pub to_the_group : SendCommand
to_the_group = record { port_guid = 0x131; dlid = 0xc020; p_key = 0x0001; destination_qp = 7; payload = 1 ∷ [] }

abbrev pub receivers : List PartitionGroups → List ℕ
receivers partitions = map (λ port. port.guid) (filter (reaches_by_groups partitions to_the_group) ports)

-- the partition file may make a group
abbrev pub with_broadcast_group : ConfigurationState
with_broadcast_group = record {
  ports = ports;
  partitions =
      record { base = 0x7fff; name = []; group = None }
      ∷ record { base = 1; name = []; group = Some (record { rate = 3; mtu = 4; service_level = 0; scope = 2; q_key = 0x0b1b }) }
      ∷ [];
}

abbrev pub mgids : List PartitionGroups → List ℕ
mgids partitions = flat_map (λ partition. map (λ group. group.mgid) partition.groups) partitions
