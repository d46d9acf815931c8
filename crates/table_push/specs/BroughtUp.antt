-- What a fabric holds once a subnet manager has brought it up (IBA volume 1, chapter 14), by its routes and by the
-- keys that are given to each LID.
use Rattle.std.specs.Prelude.{ℕ, ◌≡◌, ◌==◌, ◌-◌, true, false, List, length, slice_get, Some}
use Rattle.std.specs.List.{IsDistinct}
use Rattle.fabric_parts.specs.declared.cable.PortRef.{PortRef}
use Rattle.fabric_parts.specs.Cable.{far_end}
use Rattle.lid_assign.specs.Lids.{lid_in}
use Rattle.smp_wire.specs.Deliveries.{adapter_at}
use Rattle.smp_wire.specs.Forwards.{IsCabledPort, switch_port_at}
use Rattle.port_model.specs.AdapterState.{AdapterState}
use Rattle.port_model.specs.Packets.{is_active}
use Rattle.smp_wire.specs.FabricState.{FabricState, is_switch_at}
use Rattle.smp_wire.specs.Good.{IsGood}
use Rattle.smp_wire.specs.declared.node.Node.TheVariants.{Switch}
use Rattle.sweep.specs.Graph.{IsGraph}
use Rattle.sweep.specs.OfFabric.{IsGraphOf}
use Rattle.switch_model.specs.SwitchState.{SwitchState}
use Rattle.switch_model.specs.declared.switch_port.SwitchPort.{SwitchPort}
use Rattle.table_push.specs.Keys.{key_table}
use Rattle.table_push.specs.Laws.{HasItsTable}
use Rattle.updn_routes.specs.Routes.{AllReached, AllRouted, AreRoutes, order_of}
use Rattle.updn_routes.specs.Subnet.{AreOfGraph, RoutesState, homes_of, rows_of}

-- ---- routes
-- next hops lead to the port of each LID, and from each switch that carries a channel adapter to each such port
pub record RoutesLeadHome (routes : RoutesState) : Type 0 where
  pub graph : IsGraph routes.graph
  pub of : AreOfGraph routes
  pub own_lids : IsDistinct (λ a b. a == b) routes.lids
  -- each is the one that is chosen: the shortest way down, else by the best neighbour, of equal ones by the least port
  pub chosen : AreRoutes routes.between
  pub routed : (switch lid : ℕ) → AllRouted routes.between switch lid
  pub reached : AllReached (rows_of routes.graph) (order_of routes.between) (homes_of routes.graph routes.lids)

-- ---- the fabric
-- these keys are given to the port's LID
abbrev pub AreGiven : List (List ℕ) → AdapterState → List ℕ → Type 0
AreGiven keys port own = slice_get keys (port.info.lid - 1) ≡ Some own

pub record IsBroughtUp (routes : RoutesState) (keys : List (List ℕ)) (fabric : FabricState) : Type 0 where
  pub good : IsGood fabric
  pub graph : IsGraphOf routes.graph fabric
  -- each switch has its own LFT, up to the last LID
  pub tables : (node : ℕ) (held : SwitchState) → slice_get fabric.nodes node ≡ Some (Switch held)
      → HasItsTable routes held × (held.info.linear_fdb_top ≡ length routes.lids)
  -- each port of a channel adapter that has a cable has its LID, is Active, and has the keys that are given to the LID
  pub lids : (at : PortRef) (port : AdapterState) → IsCabledPort fabric at port → lid_in routes.lids port.port_guid ≡ Some port.info.lid
  pub active : (at : PortRef) (port : AdapterState) → IsCabledPort fabric at port → is_active port.info ≡ true
  pub own_keys : (at : PortRef) (port : AdapterState) (own : List ℕ) → IsCabledPort fabric at port → AreGiven keys port own
      → port.keys ≡ key_table false own
  -- the port of the switch before it has the full form of each
  pub facing : (here at : PortRef) (mine : SwitchPort) (port : AdapterState) (own : List ℕ) → switch_port_at fabric.nodes here ≡ Some mine
      → far_end fabric.cables here ≡ Some at → adapter_at fabric.nodes at ≡ Some port → AreGiven keys port own
      → mine.keys ≡ key_table true own
  -- ports of switches that face each other enforce no partitions
  pub between : (here at : PortRef) (mine : SwitchPort) → switch_port_at fabric.nodes here ≡ Some mine
      → far_end fabric.cables here ≡ Some at → is_switch_at fabric.nodes at.node ≡ true
      → (mine.info.partition_enforcement_inbound ≡ false) × (mine.info.partition_enforcement_outbound ≡ false)
