-- A fabric that is set up again after a cable of it was cut or mended: the statements of laws of `src/laws.rt`.
use Rattle.std.specs.Prelude.{ℕ, ◌≡◌, Bool, true, List, [], map, replicate}
use Rattle.agent_rules.specs.declared.power_up.TheConstants.{MULTICAST_TABLE}
use Rattle.fabric_parts.specs.declared.cable.Cable.{Cable}
use Rattle.fabric_parts.specs.declared.cable.PortRef.{PortRef}
use Rattle.fabric_wire.specs.Cabling.{CablingState, uncut}
use Rattle.fabric_wire.specs.OfTopology.{fabric_of}
use Rattle.fabric_wire.specs.Recabling.{cabling_with, can_change, recabled}
use Rattle.smp_wire.specs.FabricState.{FabricState}
use Rattle.smp_wire.specs.Good.{IsGood}
use Rattle.smp_wire.specs.declared.node.Node.{Node}
use Rattle.smp_wire.specs.declared.node.Node.TheVariants.{Switch, Adapter}
use Rattle.switch_model.specs.SwitchState.{SwitchState}
use Rattle.table_push.specs.Masks.{all_masks_pushed}
use Rattle.table_push.specs.Nodes.{with_switches}
use Rattle.topo_file.specs.Sound.{IsSound}
use Rattle.topo_file.specs.Topology.{TopologyState}
use Rattle.updn_routes.specs.Subnet.{RoutesState}
use Rattle.subnet_fabric.specs.BringUp.{IsBroughtUpBy, root_guids}
use Rattle.subnet_fabric.specs.SetUp.{IsSetUpBy}

-- the topology with these cables in place of its own
abbrev pub with_cables : List Cable → TopologyState → TopologyState
with_cables cables plan = record plan { cables = cables }

-- the fabric except the cables that are cut, and with no bit set in any MFT
abbrev pub cleared : SwitchState → SwitchState
cleared held = record held { masks = replicate 3 (replicate MULTICAST_TABLE 0) }

abbrev pub base_of : FabricState → FabricState
base_of fabric = with_switches (λ guid. cleared) (record fabric { cut = [] })

-- some of these cables are cut; except for those, and for what is sent to groups, the fabric is that of the topology with the
-- others alone, at power-up, set up by these routes with these keys
pub record IsUpWith (plan : TopologyState) (cabling : CablingState) (roots : List ℕ) (keys : List (List ℕ)) (routes : RoutesState)
    (fabric : FabricState) : Type 0 where
  pub good : IsGood fabric
  pub cut : fabric.cut ≡ cabling.cut
  pub set_up : IsSetUpBy (fabric_of (with_cables cabling.cables plan)) roots keys routes (base_of fabric)

-- the topology with these cables is sound then, as it was with its own
abbrev pub WhatIsUpIsSound : Type 0
WhatIsUpIsSound =
    (plan : TopologyState) (cabling : CablingState) (roots : List ℕ) (keys : List (List ℕ)) (routes : RoutesState) (fabric : FabricState)
    → IsSound plan → IsUpWith plan cabling roots keys routes fabric → IsSound (with_cables cabling.cables plan)

-- a fabric that is brought up is so with all its cables
abbrev pub BroughtUpIsUpWithAll : Type 0
BroughtUpIsUpWithAll =
    (plan : TopologyState) (keys : List (List ℕ)) (routes : RoutesState) (fabric : FabricState) → IsBroughtUpBy plan keys routes fabric
    → IsUpWith plan (uncut plan.cables) (root_guids plan) keys routes fabric

-- and stays so with all masks of a test, which are the same whatever masks there were
abbrev pub MasksKeepItUp : Type 0
MasksKeepItUp =
    (plan : TopologyState) (cabling : CablingState) (roots : List ℕ) (keys : List (List ℕ)) (routes : RoutesState)
    (receives : ℕ → ℕ → Bool) (fabric : FabricState) → IsUpWith plan cabling roots keys routes fabric
    → IsUpWith plan cabling roots keys routes (all_masks_pushed routes receives fabric)
    × (record (all_masks_pushed routes receives fabric) { cut = [] } ≡ all_masks_pushed routes receives (base_of fabric))

-- the masks of a node
abbrev pub masks_in : Node → List (List ℕ)
masks_in (Switch held) = held.masks
masks_in (Adapter ports) = []

-- and after a cable is cut or mended, and the fabric is set up again, with those that are there then: nothing of the time before
-- is left, except the masks, which stay
abbrev pub RecabledIsAsBroughtUp : Type 0
RecabledIsAsBroughtUp =
    (plan : TopologyState) (cabling : CablingState) (before roots : List ℕ) (keys : List (List ℕ)) (routes next : RoutesState)
    (was left : FabricState) (a b : PortRef) (up : Bool)
    → IsUpWith plan cabling before keys routes was → can_change a b up was ≡ true
    → IsSetUpBy (recabled a b up was) roots keys next left
    → IsUpWith plan (cabling_with up a b cabling) roots keys next left × (map masks_in left.nodes ≡ map masks_in was.nodes)
