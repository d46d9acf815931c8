-- What would become of a fabric with a cable cut, or mended: it is planned over the graph of its routes.
use Rattle.std.specs.Prelude.{ℕ, ◌≡◌, ◌==◌, Bool, true, false, List, Option, Some, None, position, unwrap_or}
use Rattle.fabric_parts.specs.Cable.{port}
use Rattle.fabric_parts.specs.declared.cable.Cable.{Cable}
use Rattle.fabric_parts.specs.declared.cable.PortRef.{PortRef}
use Rattle.updn_routes.specs.NextHops.{AreChosenFrom}
use Rattle.smp_wire.specs.FabricState.{FabricState}
use Rattle.smp_wire.specs.Good.{SwitchesJoined}
use Rattle.subnet_fabric.specs.SetUp.{AreAssigned, CanBeSetUp, HasNoPathFrom, IsByRule, IsLaidOut}
use Rattle.subnet_fabric.specs.declared.planning.Planned.{Planned}
use Rattle.subnet_fabric.specs.declared.planning.Planned.TheVariants.{Routed, NotWhole, NoLegalPath}
use Rattle.sweep.specs.Graph.{GraphState, is_linked}
use Rattle.sweep.specs.Hops.{IsTooFar}
use Rattle.sweep.specs.Recabled.{MayBeCabled, with_cable, without}
use Rattle.topo_file.specs.Topology.{TopologyState}
use Rattle.topo_file.specs.Node.{guid_at}
use Rattle.updn_routes.specs.Routes.{AllReached, AreRoutesOf, order_of}
use Rattle.updn_routes.specs.Subnet.{RoutesState, guids_of, homes_of, rows_of}
use Rattle.updn_routes.specs.declared.tie_rule.TieRule.{TieRule}

-- ---- the graph
-- a port of a switch of the topology, as a graph has it
abbrev pub port_in : TopologyState → GraphState → PortRef → PortRef
port_in plan graph at = port (unwrap_or (position (λ switch. switch.guid == guid_at plan.nodes at.node) graph.switches) 0) at.port

-- the graph once the cable between two ports of its switches is cut, or mended, if it may be
abbrev pub planned : Bool → PortRef → PortRef → GraphState → GraphState
planned true a b graph = with_cable a b graph
planned false a b graph = without a b graph

abbrev pub MayBePlanned : Bool → PortRef → PortRef → GraphState → Type 0
MayBePlanned true a b graph = MayBeCabled graph a b
MayBePlanned false a b graph = is_linked graph.rows a b ≡ true

-- and so of a cable between switches of the topology
abbrev pub planned_in : TopologyState → Cable → Bool → GraphState → GraphState
planned_in plan cable up graph = planned up (port_in plan graph cable.first) (port_in plan graph cable.second) graph

abbrev pub MayBePlannedIn : TopologyState → Cable → Bool → GraphState → Type 0
MayBePlannedIn plan cable up graph = MayBePlanned up (port_in plan graph cable.first) (port_in plan graph cable.second) graph

-- ---- the routes
-- these are those of a layout of the fabric, from these roots, by the LIDs of its end ports. Those that bring it up are so too,
-- and besides the paths of their graph lead to its switches
pub record ArePlannedOver (fabric : FabricState) (roots : List ℕ) (routes : RoutesState) : Type 0 where
  pub laid : IsLaidOut fabric routes.graph
  pub assigned : AreAssigned routes.graph routes.lids
  pub made : AreRoutesOf (rows_of routes.graph) (guids_of routes.graph) roots (homes_of routes.graph routes.lids) routes.between
  pub reached : AllReached (rows_of routes.graph) (order_of routes.between) (homes_of routes.graph routes.lids)
  pub chosen : AreChosenFrom roots routes

-- what routes over a layout of a fabric come to: each port is reached, or a pair has no up/down path
abbrev pub RoutesGive : FabricState → List ℕ → Planned → Type 0
RoutesGive fabric roots (Routed routes) =
    ((switch port : ℕ) → HasNoPathFrom fabric roots switch port → ⊥) × ArePlannedOver fabric roots routes
RoutesGive fabric roots NotWhole = ⊥
RoutesGive fabric roots (NoLegalPath switch port) = HasNoPathFrom fabric roots switch port

-- ---- what is planned for that fabric
abbrev pub IsPlan : FabricState → List ℕ → Planned → Type 0
IsPlan fabric roots (Routed routes) = CanBeSetUp fabric roots × ArePlannedOver fabric roots routes
IsPlan fabric roots NotWhole = (SwitchesJoined fabric × (IsTooFar fabric → ⊥)) → ⊥
IsPlan fabric roots (NoLegalPath switch port) = HasNoPathFrom fabric roots switch port

-- if there are routes, they take ties by that rule
abbrev pub IsPlannedBy : TieRule → Planned → Type 0
IsPlannedBy rule (Routed routes) = IsByRule rule routes
IsPlannedBy rule NotWhole = Unit {0}
IsPlannedBy rule (NoLegalPath switch port) = Unit {0}

-- the routes, if there are some
abbrev pub routes_in : Planned → Option RoutesState
routes_in (Routed routes) = Some routes
routes_in NotWhole = None
routes_in (NoLegalPath switch port) = None

abbrev pub is_routed : Planned → Bool
is_routed (Routed routes) = true
is_routed NotWhole = false
is_routed (NoLegalPath switch port) = false
