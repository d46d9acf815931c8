-- What holds of every fabric that is brought up, and of what becomes of a topology's: the statements of the laws of
-- `src/laws.rt`.
use Rattle.std.specs.Prelude.{ℕ, ◌≡◌, Bool, List, map, slice_get, Option, Some, None}
use Rattle.std.specs.Option.{option_and_then}
use Rattle.fabric_wire.specs.OfTopology.{fabric_of}
use Rattle.partition_file.specs.Sound.{IsSound as ArePartitions}
use Rattle.partition_file.specs.declared.partition.Partition.{Partition}
use Rattle.smp_wire.specs.FabricState.{FabricState}
use Rattle.smp_wire.specs.declared.node.Node.{Node}
use Rattle.smp_wire.specs.declared.node.Node.TheVariants.{Switch, Adapter}
use Rattle.subnet_model.specs.declared.subnet_port.SubnetPort.{SubnetPort}
use Rattle.subnet_fabric.specs.Ports.{ports_of}
use Rattle.subnet_fabric.specs.OfFabric.{IsFabricOf, nobody}
use Rattle.sweep.specs.Hops.{IsTooFar}
use Rattle.table_push.specs.BroughtUpLaws.{AreOfGroups, by_guid}
use Rattle.table_push.specs.Masks.{all_masks_pushed}
use Rattle.topo_file.specs.Sound.{IsSound}
use Rattle.topo_file.specs.Topology.{TopologyState}
use Rattle.updn_routes.specs.Subnet.{RoutesState}
use Rattle.subnet_fabric.specs.BringUp.{HasNoPath, IsBroughtUpBy, IsBroughtUpOf}

-- the keys of listed ports, in order of LID
abbrev pub all_keys : List SubnetPort → List (List ℕ)
all_keys ports = map (λ port. port.keys) ports

-- a fabric that is brought up with the keys of the listed ports is the fabric of the list, and what is sent to groups comes to
-- nobody there
abbrev pub AFabricIsBroughtUpAsListed : Type 0
AFabricIsBroughtUpAsListed =
    (plan : TopologyState) (partitions : List Partition) (fabric : FabricState) → IsSound plan → ArePartitions partitions
    → IsBroughtUpOf plan (all_keys (ports_of partitions plan)) fabric → IsFabricOf (ports_of partitions plan) nobody fabric

-- with MFTs of groups it is the fabric of the list and these groups
abbrev pub AFabricWithGroupsIsAsListed : Type 0
AFabricWithGroupsIsAsListed =
    (plan : TopologyState) (partitions : List Partition) (routes : RoutesState) (fabric : FabricState) (receives : ℕ → ℕ → Bool)
    → IsSound plan → ArePartitions partitions → IsBroughtUpBy plan (all_keys (ports_of partitions plan)) routes fabric
    → AreOfGroups receives
    → IsFabricOf (ports_of partitions plan) (by_guid routes.lids receives) (all_masks_pushed routes receives fabric)

-- ---- one thing becomes of a topology's fabric
-- if a cable is too far, no pair is reported that has no path, and the fabric does not come up
abbrev pub TooFarExcludesTheRest : Type 0
TooFarExcludesTheRest =
    (plan : TopologyState) (keys : List (List ℕ)) (fabric : FabricState) (switch port : ℕ) → IsTooFar (fabric_of plan)
    → (HasNoPath plan switch port → ⊥) × (IsBroughtUpOf plan keys fabric → ⊥)

-- if a pair has no path, the fabric does not come up, whatever the keys
abbrev pub NoPathExcludesComingUp : Type 0
NoPathExcludesComingUp =
    (plan : TopologyState) (keys : List (List ℕ)) (fabric : FabricState) (switch port : ℕ) → IsSound plan
    → HasNoPath plan switch port → IsBroughtUpOf plan keys fabric → ⊥

-- the pair that is reported is one
abbrev pub OnePairHasNoPath : Type 0
OnePairHasNoPath =
    (plan : TopologyState) (a b c d : ℕ) → IsSound plan → HasNoPath plan a b → HasNoPath plan c d → (a ≡ c) × (b ≡ d)

-- the linear forwarding table of the switch at that place
abbrev pub linear_of : Node → Option (List ℕ)
linear_of (Switch held) = Some held.linear
linear_of (Adapter ports) = None

abbrev pub linear_at : FabricState → ℕ → Option (List ℕ)
linear_at fabric node = option_and_then linear_of (slice_get fabric.nodes node)

-- and of a fabric that comes up by one rule of ties each switch has one, whatever the keys
abbrev pub OneTableIsLeft : Type 0
OneTableIsLeft =
    (plan : TopologyState) (keys other_keys : List (List ℕ)) (one other : FabricState) (node : ℕ) → IsSound plan
    → (by : IsBroughtUpOf plan keys one) (by_too : IsBroughtUpOf plan other_keys other)
    → by_too.routes.between.rule ≡ by.routes.between.rule → linear_at other node ≡ linear_at one node
