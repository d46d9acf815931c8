-- What holds of every fabric that stands while cables are cut and mended: the statements of laws of `src/laws.rt`.
use Rattle.std.specs.Prelude.{ℕ, ◌≡◌, Bool, List}
use Rattle.fabric_parts.specs.declared.cable.PortRef.{PortRef}
use Rattle.fabric_wire.specs.Cabling.{CablingState}
use Rattle.fabric_wire.specs.Recabling.{cabling_of}
use Rattle.partition_file.specs.Sound.{IsSound as ArePartitions}
use Rattle.partition_file.specs.declared.partition.Partition.{Partition}
use Rattle.smp_wire.specs.FabricState.{FabricState}
use Rattle.subnet_fabric.specs.Ports.{ports_of}
use Rattle.subnet_fabric.specs.OfFabric.{IsFabricOf}
use Rattle.table_push.specs.BroughtUpLaws.{AreOfGroups, by_guid}
use Rattle.table_push.specs.Masks.{all_masks_pushed}
use Rattle.topo_file.specs.Sound.{IsSound}
use Rattle.topo_file.specs.Topology.{TopologyState}
use Rattle.updn_routes.specs.Subnet.{RoutesState}
use Rattle.subnet_fabric.specs.BringUp.{IsBroughtUpBy}
use Rattle.subnet_fabric.specs.Laws.{all_keys}
use Rattle.subnet_fabric.specs.Standing.{IsNextCabling, IsStanding}

-- a topology's fabric that is brought up stands
abbrev pub BroughtUpStands : Type 0
BroughtUpStands =
    (plan : TopologyState) (keys : List (List ℕ)) (routes : RoutesState) (fabric : FabricState) → IsBroughtUpBy plan keys routes fabric
    → IsStanding plan keys routes fabric

-- and does so with the masks of any groups
abbrev pub MasksLetItStand : Type 0
MasksLetItStand =
    (plan : TopologyState) (keys : List (List ℕ)) (routes : RoutesState) (receives : ℕ → ℕ → Bool) (fabric : FabricState)
    → IsStanding plan keys routes fabric → IsStanding plan keys routes (all_masks_pushed routes receives fabric)

-- whichever cables are cut, with the keys of the listed ports and with MFTs of groups it is the fabric of the list and of these
-- groups
abbrev pub AStandingFabricIsAsListed : Type 0
AStandingFabricIsAsListed =
    (plan : TopologyState) (partitions : List Partition) (routes : RoutesState) (fabric : FabricState) (receives : ℕ → ℕ → Bool)
    → IsSound plan → ArePartitions partitions → IsStanding plan (all_keys (ports_of partitions plan)) routes fabric → AreOfGroups receives
    → IsFabricOf (ports_of partitions plan) (by_guid routes.lids receives) (all_masks_pushed routes receives fabric)

-- what is pushed is one fabric, for the same keys, cables, groups and rule of ties, whatever the routes of the two are: those of a
-- sweep that found the switches in another order, too
abbrev pub OneFabricStands : Type 0
OneFabricStands =
    (plan : TopologyState) (keys : List (List ℕ)) (routes others : RoutesState) (receives : ℕ → ℕ → Bool) (one other : FabricState)
    → IsSound plan → IsStanding plan keys routes one → IsStanding plan keys others other → cabling_of one ≡ cabling_of other
    → others.between.rule ≡ routes.between.rule
    → all_masks_pushed routes receives one ≡ all_masks_pushed others receives other

-- ---- and of cables
-- one cabling follows
abbrev pub OneCablingFollows : Type 0
OneCablingFollows =
    (plan : TopologyState) (a b : PortRef) (up : Bool) (was one other : CablingState) → IsNextCabling plan a b up was one
    → IsNextCabling plan a b up was other → one ≡ other
