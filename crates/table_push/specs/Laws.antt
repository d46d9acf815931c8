-- What holds after every push: the statements of the laws of `src/laws.rt`.
use Rattle.std.specs.Prelude.{ℕ, ◌≡◌, ◌+◌, ◌<◌, Bool, true, false, List, slice_get, Some, option_map}
use Rattle.agent_rules.specs.declared.power_up.TheConstants.{MULTICAST_TABLE}
use Rattle.fabric_parts.specs.Lid.{is_multicast}
use Rattle.fabric_parts.specs.declared.lid.TheConstants.{FIRST_MULTICAST_LID}
use Rattle.smp_wire.specs.Shape.{IsSameShape}
use Rattle.sweep.specs.Graph.{GraphState}
use Rattle.smp_wire.specs.FabricState.{FabricState}
use Rattle.smp_wire.specs.Good.{IsGood}
use Rattle.smp_wire.specs.declared.node.Node.TheVariants.{Switch}
use Rattle.switch_model.specs.Multicast.{is_in_masks}
use Rattle.switch_model.specs.SwitchState.{SwitchState}
use Rattle.sweep.specs.Graph.{IsGraph}
use Rattle.sweep.specs.OfFabric.{IsGraphOf}
use Rattle.table_push.specs.Keys.{keys_pushed}
use Rattle.table_push.specs.Linear.{linear_pushed, linear_table}
use Rattle.table_push.specs.Masks.{all_masks_pushed, is_in_mask, is_in_mlid_range, masks_of, masks_pushed, wanted_range}
use Rattle.table_push.specs.Ports.{ports_pushed}
use Rattle.updn_routes.specs.Subnet.{RoutesState, place_of}

-- the switch is the graph's at that place, and has the table of that place
pub record HasItsTable (routes : RoutesState) (held : SwitchState) : Type 0 where
  pub place : ℕ
  pub guid_is : option_map (λ switch. switch.guid) (slice_get routes.graph.switches place) ≡ Some held.node_guid
  pub table : held.linear ≡ linear_table routes place

-- after a push over the fabric of the graph no switch is left out
abbrev pub EverySwitchHasItsTable : Type 0
EverySwitchHasItsTable =
    (routes : RoutesState) (fabric : FabricState) (node : ℕ) (held : SwitchState) → IsGraph routes.graph → IsGraphOf routes.graph fabric
    → IsGood fabric → slice_get (linear_pushed routes fabric).nodes node ≡ Some (Switch held) → HasItsTable routes held

-- what a graph is of is still the same fabric, so that another push finds its way
abbrev pub PushesKeepTheGraph : Type 0
PushesKeepTheGraph =
    (routes : RoutesState) (keys : List (List ℕ)) (fabric : FabricState) (graph : GraphState) → IsGraphOf graph fabric
    → (IsSameShape fabric (linear_pushed routes fabric) → IsGraphOf graph (linear_pushed routes fabric))
    × (IsSameShape fabric (keys_pushed routes keys fabric) → IsGraphOf graph (keys_pushed routes keys fabric))
    × (IsSameShape fabric (ports_pushed routes fabric) → IsGraphOf graph (ports_pushed routes fabric))

-- ---- masks
-- bit by bit, of each multicast LID that the table has and of each port that has a bit
abbrev pub MasksAreRead : Type 0
MasksAreRead =
    (routes : RoutesState) (receives : ℕ → ℕ → Bool) (place mlid number : ℕ)
    → is_multicast mlid ≡ true → mlid < FIRST_MULTICAST_LID + MULTICAST_TABLE → number < 48
    → is_in_masks (masks_of routes receives place) mlid number ≡ is_in_mask routes receives place mlid number

-- tests that agree on the multicast LIDs of a partition want one MLID range
abbrev pub MlidRangesAreTheirOwn : Type 0
MlidRangesAreTheirOwn =
    (routes : RoutesState) (partition place : ℕ) (one other : ℕ → ℕ → Bool)
    → ((mlid lid : ℕ) → is_in_mlid_range partition mlid ≡ true → one mlid lid ≡ other mlid lid)
    → wanted_range routes partition one place ≡ wanted_range routes partition other place

-- each switch that the fabric and the graph have holds all masks of that test
abbrev pub HasMasksOf : RoutesState → (receives : ℕ → ℕ → Bool) → FabricState → Type 0
HasMasksOf routes receives fabric =
    (node place : ℕ) (held : SwitchState) → slice_get fabric.nodes node ≡ Some (Switch held)
    → place_of routes.graph.switches held.node_guid ≡ Some place → held.masks ≡ masks_of routes receives place

-- if the masks are those of one test, and the other differs from it for the partition alone, a push of that MLID range makes
-- all of them those of the other
abbrev pub MlidRangesMakeTheWhole : Type 0
MlidRangesMakeTheWhole =
    (routes : RoutesState) (partition : ℕ) (fabric : FabricState) (one other : ℕ → ℕ → Bool)
    → ((mlid lid : ℕ) → is_in_mlid_range partition mlid ≡ false → one mlid lid ≡ other mlid lid)
    → HasMasksOf routes one fabric → HasMasksOf routes other (masks_pushed routes partition other fabric)

-- and so from all masks of the one it makes all masks of the other
abbrev pub MlidRangesMakeAll : Type 0
MlidRangesMakeAll =
    (routes : RoutesState) (partition : ℕ) (fabric : FabricState) (one other : ℕ → ℕ → Bool)
    → ((mlid lid : ℕ) → is_in_mlid_range partition mlid ≡ false → one mlid lid ≡ other mlid lid)
    → masks_pushed routes partition other (all_masks_pushed routes one fabric) ≡ all_masks_pushed routes other fabric
