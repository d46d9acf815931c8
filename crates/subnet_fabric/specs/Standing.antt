-- A topology's fabric while cables of it are cut and mended: with which of them it can be brought up, and what it is then.
use Rattle.std.specs.Prelude.{ℕ, ◌≡◌, ◌&&◌, ◌⊎◌, Bool, false, if◌then◌else◌, List, map, Option, Some, None, Result, Ok, Err}
use Rattle.fabric_parts.specs.Cable.{far_end}
use Rattle.fabric_parts.specs.declared.cable.Cable.{Cable}
use Rattle.fabric_parts.specs.declared.cable.PortRef.{PortRef}
use Rattle.fabric_wire.specs.Cabling.{CablingState}
use Rattle.fabric_wire.specs.OfTopology.{fabric_of}
use Rattle.fabric_wire.specs.Recabling.{cabling_of, cabling_with}
use Rattle.smp_wire.specs.FabricState.{FabricState}
use Rattle.subnet_fabric.specs.BringUp.{root_guids}
use Rattle.subnet_fabric.specs.Recabled.{IsUpWith, masks_in, with_cables}
use Rattle.subnet_fabric.specs.SetUp.{CanBeSetUp}
use Rattle.subnet_fabric.specs.declared.fault.FabricFault.{FabricFault}
use Rattle.subnet_fabric.specs.declared.fault.FabricFault.TheVariants.{NoMemory}
use Rattle.topo_file.specs.Node.{is_switch_at}
use Rattle.topo_file.specs.Topology.{TopologyState}
use Rattle.updn_routes.specs.Subnet.{RoutesState}

-- ---- whether it can come up
-- the fabric of a topology, at power-up
abbrev pub CanComeUp : TopologyState → Type 0
CanComeUp plan = CanBeSetUp (fabric_of plan) (root_guids plan)

-- ---- which cables are in place
-- those that are there if the cable between these ports is cut, or mended; cables to channel adapters stay
abbrev pub cabling_after : TopologyState → PortRef → PortRef → Bool → CablingState → CablingState
cabling_after plan a b up was =
    if is_switch_at plan.nodes a.node && is_switch_at plan.nodes b.node then cabling_with up a b was else was

-- the first if this holds, and the second if it does not
abbrev pub IsChosen : {X : Type 0} → (P : Type 0) → (first second chosen : X) → Type 0
IsChosen P first second chosen = (P × (chosen ≡ first)) ⊎ ((P → ⊥) × (chosen ≡ second))

-- the link of a cable goes down, or comes up, if and only if the topology with the cables that are in place then can be brought up
abbrev pub IsNextCabling : TopologyState → PortRef → PortRef → Bool → (was next : CablingState) → Type 0
IsNextCabling plan a b up was next =
    let changed = cabling_after plan a b up was in
    IsChosen (CanComeUp (with_cables changed.cables plan)) changed was next

-- ---- the fabric meanwhile
-- it is up with the cables that are in place, and the channel adapters have all of theirs
pub record IsStanding (plan : TopologyState) (keys : List (List ℕ)) (routes : RoutesState) (fabric : FabricState) : Type 0 where
  pub up : IsUpWith plan (cabling_of fabric) (root_guids plan) keys routes fabric
  pub hung : (at : PortRef) → is_switch_at plan.nodes at.node ≡ false → far_end fabric.cables at ≡ far_end plan.cables at

-- after a cable of it was to be cut, or mended: its masks are those that were there
pub record IsRecabled (plan : TopologyState) (keys : List (List ℕ)) (a b : PortRef) (up : Bool) (next : RoutesState)
    (was left : FabricState) : Type 0 where
  pub cabling : IsNextCabling plan a b up (cabling_of was) (cabling_of left)
  pub standing : IsStanding plan keys next left
  pub masks : map masks_in left.nodes ≡ map masks_in was.nodes

-- it is set up by new routes, as other cables are in place then, or it is as it was; nothing else is refused than memory
abbrev pub Recables : TopologyState → List (List ℕ) → Cable → Bool → RoutesState → (was left : FabricState)
    → Result (Option RoutesState) FabricFault → Type 0
Recables plan keys cable up routes was left (Ok (Some next)) =
    IsRecabled plan keys cable.first cable.second up next was left × (cabling_of left ≡ cabling_of was → ⊥)
Recables plan keys cable up routes was left (Ok None) =
    IsRecabled plan keys cable.first cable.second up routes was left × (left ≡ was)
Recables plan keys cable up routes was left (Err fault) = fault ≡ NoMemory
