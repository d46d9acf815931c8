-- What a fabric is when it is set up: it is swept, its end ports are named by LIDs, routes are computed, and all that
-- these give is pushed. And when it is not.
use Rattle.std.specs.Prelude.{ℕ, ◌≡◌, ◌==◌, ◌&&◌, Bool, List, Result, Ok, Err}
use Rattle.std.specs.List.{list_all, list_any}
use Rattle.lid_assign.specs.Lids.{AreLids, IsInOrder, end_ports}
use Rattle.smp_wire.specs.FabricState.{FabricState, is_switch}
use Rattle.smp_wire.specs.Good.{SwitchesJoined, node_guid}
use Rattle.smp_wire.specs.declared.node.Node.{Node}
use Rattle.subnet_fabric.specs.declared.fault.FabricFault.{FabricFault}
use Rattle.subnet_fabric.specs.declared.fault.FabricFault.TheVariants.{NoMemory, Sweep, NoLegalPath, Push}
use Rattle.sweep.specs.Graph.{GraphState}
use Rattle.sweep.specs.Hops.{IsTooFar}
use Rattle.sweep.specs.Joined.{AllJoined}
use Rattle.sweep.specs.Limits.{IsTooBig}
use Rattle.sweep.specs.OfFabric.{IsGraphOf, IsLayoutOf}
use Rattle.sweep.specs.declared.fault.SweepFault.{SweepFault}
use Rattle.sweep.specs.declared.fault.SweepFault.TheVariants as sweep
use Rattle.table_push.specs.BroughtUp.{RoutesLeadHome}
use Rattle.table_push.specs.Pushed.{ArePushed, all_pushed}
use Rattle.updn_routes.specs.Fault.{IsRefused}
use Rattle.updn_routes.specs.Routes.{AllReached, AreRoutesOf, order_of}
use Rattle.updn_routes.specs.Subnet.{RoutesState, guids_of, homes_of, rows_of}
use Rattle.updn_routes.specs.declared.tie_rule.TieRule.{TieRule}

-- ---- roots
-- a switch of the fabric has that GUID
abbrev pub has_switch : List Node → ℕ → Bool
has_switch nodes guid = list_any (λ node. is_switch node && (node_guid node == guid)) nodes

abbrev pub are_switches : FabricState → List ℕ → Bool
are_switches fabric roots = list_all (has_switch fabric.nodes) roots

-- ---- how it comes about
-- the layout of the fabric, each cable of which an SMP goes over, and which is not too big: links join its switches
pub record IsLaidOut (fabric : FabricState) (graph : GraphState) : Type 0 where
  pub layout : IsLayoutOf graph fabric
  pub joined : AllJoined graph.rows
  pub near : IsTooFar fabric → ⊥
  pub small : IsTooBig fabric → ⊥

-- and its graph, whose paths lead to its switches
pub record IsFound (fabric : FabricState) (graph : GraphState) : Type 0 where
  pub of : IsGraphOf graph fabric
  pub joined : AllJoined graph.rows
  pub near : IsTooFar fabric → ⊥
  pub small : IsTooBig fabric → ⊥

-- LIDs as they are assigned
pub record AreAssigned (graph : GraphState) (guids : List ℕ) : Type 0 where
  pub lids : AreLids (end_ports graph) guids
  pub order : IsInOrder graph.manager guids

-- these routes take ties by that rule
abbrev pub IsByRule : TieRule → RoutesState → Type 0
IsByRule rule routes = routes.between.rule ≡ rule

-- the routes of that graph, by its LIDs, from these roots, whatever their rule of ties: each port is reached
pub record AreRoutesOver (fabric : FabricState) (roots : List ℕ) (routes : RoutesState) : Type 0 where
  pub found : IsFound fabric routes.graph
  pub assigned : AreAssigned routes.graph routes.lids
  pub made : AreRoutesOf (rows_of routes.graph) (guids_of routes.graph) roots (homes_of routes.graph routes.lids) routes.between
  pub reached : AllReached (rows_of routes.graph) (order_of routes.between) (homes_of routes.graph routes.lids)

-- the fabric as it was, to which all is pushed that these routes and keys give
pub record IsSetUpBy (was : FabricState) (roots : List ℕ) (keys : List (List ℕ)) (routes : RoutesState)
    (fabric : FabricState) : Type 0 where
  pub are : AreRoutesOver was roots routes
  pub home : RoutesLeadHome routes
  pub pushed : ArePushed routes keys was
  pub is : fabric ≡ all_pushed routes keys was

-- ---- why it does not
-- between a switch and a port there is no up/down path, and between no earlier pair, by their LIDs
pub record HasNoPathFrom (fabric : FabricState) (roots : List ℕ) (switch port : ℕ) : Type 0 where
  pub graph : GraphState
  pub laid : IsLaidOut fabric graph
  pub guids : List ℕ
  pub assigned : AreAssigned graph guids
  pub refused : IsRefused (rows_of graph) (guids_of graph) roots (homes_of graph guids) switch port

-- of a sweep's faults there are two, and of a push's none
abbrev pub IsNotSwept : FabricState → SweepFault → Type 0
IsNotSwept fabric sweep.NoMemory = ⊥
IsNotSwept fabric sweep.NoReply = ⊥
IsNotSwept fabric sweep.WrongReply = ⊥
IsNotSwept fabric sweep.TooManyHops = IsTooFar fabric
IsNotSwept fabric sweep.TooManyNodes = IsTooBig fabric

abbrev pub IsNotSetUp : FabricState → List ℕ → FabricFault → Type 0
IsNotSetUp fabric roots NoMemory = Unit {0}
IsNotSetUp fabric roots (Sweep fault) = IsNotSwept fabric fault
IsNotSetUp fabric roots (NoLegalPath switch port) = HasNoPathFrom fabric roots switch port
IsNotSetUp fabric roots (Push fault) = ⊥

-- ---- whether it can be set up
-- cables join its switches, none is too far for an SMP, and these roots leave no port without a way
pub record CanBeSetUp (fabric : FabricState) (roots : List ℕ) : Type 0 where
  pub joined : SwitchesJoined fabric
  pub near : IsTooFar fabric → ⊥
  pub reached : (switch port : ℕ) → HasNoPathFrom fabric roots switch port → ⊥

-- ---- what is answered
abbrev pub RoutesAre : FabricState → List ℕ → Result RoutesState FabricFault → Type 0
RoutesAre fabric roots (Ok routes) = AreRoutesOver fabric roots routes
RoutesAre fabric roots (Err fault) = IsNotSetUp fabric roots fault

-- if it is not set up, it is as it was
abbrev pub SetsUp : FabricState → List ℕ → List (List ℕ) → FabricState → Result RoutesState FabricFault → Type 0
SetsUp was roots keys left (Ok routes) = IsSetUpBy was roots keys routes left
SetsUp was roots keys left (Err fault) = IsNotSetUp was roots fault × (left ≡ was)
