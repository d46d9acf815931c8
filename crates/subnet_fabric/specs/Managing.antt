-- What comes of setting up a fabric behind any wire, of which certain end ports are asked for.
use Rattle.std.specs.Prelude.{ℕ, ◌≡◌, ◌==◌, ◌⊎◌, Bool, true, List, Option, Some, Result, Ok, Err}
use Rattle.std.specs.List.{list_all, list_any}
use Rattle.smp_wire.specs.FabricState.{FabricState}
use Rattle.subnet_fabric.specs.SetUp.{AreAssigned, AreRoutesOver, IsFound, IsNotSetUp, IsSetUpBy}
use Rattle.subnet_fabric.specs.declared.fault.FabricFault.{FabricFault}
use Rattle.subnet_fabric.specs.declared.fault.FabricFault.TheVariants.{Sweep}
use Rattle.subnet_fabric.specs.declared.managing.Managed.{Managed}
use Rattle.sweep.specs.Graph.{GraphState}
use Rattle.sweep.specs.Joined.{AllJoined}
use Rattle.sweep.specs.declared.fault.SweepFault.TheVariants.{WrongReply}
use Rattle.table_push.specs.BroughtUp.{RoutesLeadHome}
use Rattle.updn_routes.specs.Routes.{AllReached, AreRoutesOf, order_of}
use Rattle.updn_routes.specs.Subnet.{RoutesState, guids_of, homes_of, rows_of}

-- ---- over any wire
-- a switch of the graph has the GUID of each root
abbrev pub is_found : GraphState → ℕ → Bool
is_found graph root = list_any (λ switch. switch.guid == root) graph.switches

abbrev pub are_found : GraphState → List ℕ → Bool
are_found graph roots = list_all (is_found graph) roots

-- the LIDs are those of the end ports that are asked for, and the routes are over the graph that a sweep gave, whose switches
-- links join, from these roots: each port is reached
pub record AreAsked (roots ports : List ℕ) (routes : RoutesState) : Type 0 where
  pub joined : AllJoined routes.graph.rows
  pub lids : routes.lids ≡ ports
  pub assigned : AreAssigned routes.graph routes.lids
  pub named : are_found routes.graph roots ≡ true
  pub made : AreRoutesOf (rows_of routes.graph) (guids_of routes.graph) roots (homes_of routes.graph routes.lids) routes.between
  pub reached : AllReached (rows_of routes.graph) (order_of routes.between) (homes_of routes.graph routes.lids)

-- and lead to the port of each LID
pub record AreManaged (roots ports : List ℕ) (routes : RoutesState) : Type 0 where
  pub asked : AreAsked roots ports routes
  pub home : RoutesLeadHome routes

-- ---- over a wire that stands for a good fabric
-- its end ports are others, or a root is no switch of it
pub record IsAnother (fabric : FabricState) (roots ports : List ℕ) : Type 0 where
  pub graph : GraphState
  pub found : IsFound fabric graph
  pub guids : List ℕ
  pub assigned : AreAssigned graph guids
  pub differs : guids ≡ ports → are_found graph roots ≡ true → ⊥

-- this is a fault of the sweep
abbrev pub IsNotAsked : FabricState → (ports roots : List ℕ) → FabricFault → Type 0
IsNotAsked fabric ports roots fault = (IsAnother fabric roots ports × (fault ≡ Sweep WrongReply)) ⊎ IsNotSetUp fabric roots fault

abbrev pub RoutesAreAsked : FabricState → (ports roots : List ℕ) → Result RoutesState FabricFault → Type 0
RoutesAreAsked fabric ports roots (Ok routes) = AreRoutesOver fabric roots routes
RoutesAreAsked fabric ports roots (Err fault) = IsNotAsked fabric ports roots fault

-- the wire stands for the fabric that was set up
pub record IsSetUpBehind (was : FabricState) (roots : List ℕ) (keys : List (List ℕ)) (routes : RoutesState)
    (left : Option FabricState) : Type 0 where
  pub after : FabricState
  pub stands : left ≡ Some after
  pub set_up : IsSetUpBy was roots keys routes after

-- and no port of it is counted that does not enforce partitions
abbrev pub SetsUpAsked : FabricState → (ports roots : List ℕ) → List (List ℕ) → (left : Option FabricState) → Result Managed FabricFault → Type 0
SetsUpAsked was ports roots keys left (Ok managed) = IsSetUpBehind was roots keys managed.routes left × (managed.not_enforcing ≡ 0)
SetsUpAsked was ports roots keys left (Err fault) = IsNotAsked was ports roots fault × (left ≡ Some was)
