-- What holds of every fabric that is served: the statements of the laws of `src/administration_laws.rt`.
use Rattle.std.specs.Prelude.{◌≡◌, List}
use Rattle.smp_wire.specs.Groups.{HasNoIdleBits}
use Rattle.fabric_wire.specs.Recabling.{cabling_of}
use Rattle.partition_file.specs.Sound.{IsSound as ArePartitions}
use Rattle.partition_file.specs.declared.partition.Partition.{Partition}
use Rattle.sa_model.specs.Delivery.{is_receiver_of}
use Rattle.sa_model.specs.Groups.{PartitionGroups, start_of}
use Rattle.sa_replies.specs.Answer.{Administration}
use Rattle.sa_replies.specs.State.{IsStateOf}
use Rattle.smp_wire.specs.FabricState.{FabricState}
use Rattle.subnet_fabric.specs.BringUp.{IsBroughtUpBy}
use Rattle.subnet_fabric.specs.Laws.{all_keys}
use Rattle.subnet_model.specs.declared.subnet_port.SubnetPort.{SubnetPort}
use Rattle.subnet_fabric.specs.Ports.{configuration_of, ports_of}
use Rattle.subnet_fabric.specs.OfFabric.{IsFabricOf}
use Rattle.topo_file.specs.Sound.{IsSound}
use Rattle.topo_file.specs.Topology.{TopologyState}
use Rattle.updn_routes.specs.Subnet.{RoutesState}
use Rattle.subnet_core.specs.Served.{IsServed}

-- a fabric that is served is the fabric of the list of its ports, if those receive what is sent to groups that are in them
abbrev pub AServedFabricIsAsListed : Type 0
AServedFabricIsAsListed =
    (plan : TopologyState) (partitions : List Partition) (state : Administration) (routes : RoutesState) (fabric : FabricState)
    → IsSound plan → ArePartitions partitions → IsStateOf (configuration_of partitions plan) state
    → IsServed plan (ports_of partitions plan) state.remembered.partitions routes fabric
    → IsFabricOf (ports_of partitions plan) (is_receiver_of state.remembered.partitions) fabric

-- and no bit of its masks is set in vain: each leads to a port that receives
abbrev pub AServedFabricHasNoIdleBits : Type 0
AServedFabricHasNoIdleBits =
    (plan : TopologyState) (partitions : List Partition) (state : Administration) (routes : RoutesState) (fabric : FabricState)
    → IsSound plan → ArePartitions partitions → IsStateOf (configuration_of partitions plan) state
    → IsServed plan (ports_of partitions plan) state.remembered.partitions routes fabric
    → HasNoIdleBits fabric (is_receiver_of state.remembered.partitions)

-- before the first command nobody is in a group, and the fabric is served as it was brought up
abbrev pub StartsAreServed : Type 0
StartsAreServed =
    (plan : TopologyState) (partitions : List Partition) (routes : RoutesState) (fabric : FabricState)
    → IsSound plan → ArePartitions partitions → IsBroughtUpBy plan (all_keys (ports_of partitions plan)) routes fabric
    → IsServed plan (ports_of partitions plan) (start_of (configuration_of partitions plan)) routes fabric

-- with the same cables in place and by one rule of ties it is served by one set of masks: nothing else than who receives decides what
-- the fabric is, and not the order in which a sweep found the switches either
abbrev pub OneFabricIsServed : Type 0
OneFabricIsServed =
    (plan : TopologyState) (ports : List SubnetPort) (partitions : List PartitionGroups) (routes others : RoutesState) (one other : FabricState)
    → IsSound plan → IsServed plan ports partitions routes one → IsServed plan ports partitions others other
    → cabling_of one ≡ cabling_of other → others.between.rule ≡ routes.between.rule → one ≡ other
