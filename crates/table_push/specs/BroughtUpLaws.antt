-- What holds of every fabric that is brought up: the statements of the laws of `src/laws.rt`.
use Rattle.std.specs.Prelude.{ℕ, ◌≡◌, ◌+◌, ◌<◌, Bool, true, false, List, length}
use Rattle.std.specs.Option.{option_map_or}
use Rattle.agent_rules.specs.declared.power_up.TheConstants.{MULTICAST_TABLE}
use Rattle.fabric_parts.specs.Lid.{is_multicast}
use Rattle.fabric_parts.specs.declared.lid.TheConstants.{FIRST_MULTICAST_LID}
use Rattle.lid_assign.specs.Lids.{lid_in}
use Rattle.smp_wire.specs.Forwards.{ForwardsByLid}
use Rattle.smp_wire.specs.Groups.{ForwardsByMlid, HasNoIdleBits}
use Rattle.smp_wire.specs.FabricState.{FabricState}
use Rattle.smp_wire.specs.Good.{IsGood}
use Rattle.fabric_parts.specs.declared.cable.PortRef.{PortRef}
use Rattle.sweep.specs.EndPorts.{end_port_in}
use Rattle.sweep.specs.OfFabric.{IsGraphOf}
use Rattle.table_push.specs.BroughtUp.{IsBroughtUp, RoutesLeadHome}
use Rattle.table_push.specs.Laws.{HasMasksOf}
use Rattle.table_push.specs.Masks.{all_masks_pushed}
use Rattle.table_push.specs.Pushed.{ArePushed, all_pushed}
use Rattle.updn_routes.specs.Subnet.{RoutesState}
use Rattle.updn_routes.specs.Tree.{AreDepths}

-- if keys are given to each LID, the fabric forwards packets by their LIDs
abbrev pub BroughtUpForwardsByLid : Type 0
BroughtUpForwardsByLid =
    (routes : RoutesState) (keys : List (List ℕ)) (fabric : FabricState) → RoutesLeadHome routes → length keys ≡ length routes.lids
    → IsBroughtUp routes keys fabric → ForwardsByLid fabric

-- ---- by multicast LID
-- the port of that GUID receives by its LID
abbrev pub by_guid : List ℕ → (receives : ℕ → ℕ → Bool) → (mlid guid : ℕ) → Bool
by_guid lids receives mlid guid = option_map_or (receives mlid) (lid_in lids guid) false

-- only of multicast LIDs that tables have
abbrev pub AreOfGroups : (receives : ℕ → ℕ → Bool) → Type 0
AreOfGroups receives =
    (mlid lid : ℕ) → receives mlid lid ≡ true → (is_multicast mlid ≡ true) × (mlid < FIRST_MULTICAST_LID + MULTICAST_TABLE)

-- if switches have the masks of a test besides, the fabric forwards packets by the multicast LIDs of that test
abbrev pub BroughtUpForwardsByMlid : Type 0
BroughtUpForwardsByMlid =
    (routes : RoutesState) (roots : List ℕ) (keys : List (List ℕ)) (fabric : FabricState) (receives : ℕ → ℕ → Bool)
    → RoutesLeadHome routes → AreDepths routes.between.rows routes.between.guids roots routes.between.depths
    → length keys ≡ length routes.lids → IsBroughtUp routes keys fabric → HasMasksOf routes receives fabric → AreOfGroups receives
    → ForwardsByMlid fabric (by_guid routes.lids receives)

-- and no bit of theirs is set in vain
abbrev pub BroughtUpHasNoIdleBits : Type 0
BroughtUpHasNoIdleBits =
    (routes : RoutesState) (roots : List ℕ) (keys : List (List ℕ)) (fabric : FabricState) (receives : ℕ → ℕ → Bool)
    → RoutesLeadHome routes → AreDepths routes.between.rows routes.between.guids roots routes.between.depths
    → IsBroughtUp routes keys fabric → HasMasksOf routes receives fabric → HasNoIdleBits fabric (by_guid routes.lids receives)

-- all masks of a test leave a fabric up, and its switches have them then
abbrev pub MasksKeepWhatIsUp : Type 0
MasksKeepWhatIsUp =
    (routes : RoutesState) (keys : List (List ℕ)) (receives : ℕ → ℕ → Bool) (fabric : FabricState)
    → IsBroughtUp routes keys fabric → IsBroughtUp routes keys (all_masks_pushed routes receives fabric)

abbrev pub AllMasksAreThere : Type 0
AllMasksAreThere =
    (routes : RoutesState) (receives : ℕ → ℕ → Bool) (fabric : FabricState)
    → HasMasksOf routes receives (all_masks_pushed routes receives fabric)

-- ---- the pushes
-- over the good fabric of the routes' graph, the pushes bring it up
abbrev pub PushesBringUp : Type 0
PushesBringUp =
    (routes : RoutesState) (keys : List (List ℕ)) (fabric : FabricState) → RoutesLeadHome routes → IsGraphOf routes.graph fabric
    → IsGood fabric
    → ArePushed routes keys fabric → IsBroughtUp routes keys (all_pushed routes keys fabric)

-- and keep its end ports
abbrev pub PushesKeepTheEndPorts : Type 0
PushesKeepTheEndPorts =
    (routes : RoutesState) (keys : List (List ℕ)) (fabric : FabricState) (at : PortRef)
    → end_port_in (all_pushed routes keys fabric) at ≡ end_port_in fabric at
