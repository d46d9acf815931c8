-- What a sweep and routes over a fabric come to.
use Rattle.std.proofs.Common.{ℕ, ◌≡◌, List, subst, sym}
use Rattle.fabric_wire.proofs.OfTopologyWalkLemmas.{joined}
use Rattle.fabric_wire.specs.OfTopology.{fabric_of}
use Rattle.smp_wire.specs.FabricState.{FabricState}
use Rattle.subnet_fabric.specs.BringUp.{Stops, root_guids}
use Rattle.subnet_fabric.specs.Fault.{of_routes}
use Rattle.subnet_fabric.specs.SetUp.{AreAssigned, AreRoutesOver, IsFound, IsLaidOut, IsNotSetUp}
use Rattle.subnet_fabric.specs.declared.fault.FabricFault.{FabricFault}
use Rattle.subnet_fabric.specs.declared.fault.FabricFault.TheVariants as fabric
use Rattle.subnet_fabric.proofs.LimitLemmas.{not_too_big}
use Rattle.sweep.specs.Graph.{GraphState}
use Rattle.sweep.specs.declared.fault.SweepFault.TheVariants.{NoMemory, NoReply, WrongReply, TooManyHops, TooManyNodes}
use Rattle.topo_file.specs.Sound.{IsSound}
use Rattle.topo_file.specs.Topology.{TopologyState}
use Rattle.updn_routes.specs.Fault.{IsFaultOf}
use Rattle.updn_routes.specs.Routes.{AllReached, AreRoutesOf, order_of}
use Rattle.updn_routes.specs.Subnet.{RoutesState, guids_of, homes_of, rows_of}
use Rattle.updn_routes.specs.declared.fault.RouteFault.{RouteFault}
use Rattle.updn_routes.specs.declared.fault.RouteFault.TheVariants as routes

pub laid_out : (over : FabricState) (graph : GraphState) → IsFound over graph → IsLaidOut over graph
laid_out over graph found = record { layout = found.of.layout; joined = found.joined; near = found.near; small = found.small }

-- routes that are made are those of the fabric
pub are_routes : (over : FabricState) (graph : GraphState) (lids roots : List ℕ) (routes : RoutesState) → IsFound over graph → AreAssigned graph lids
    → routes.graph ≡ graph → routes.lids ≡ lids
    → AreRoutesOf (rows_of graph) (guids_of graph) roots (homes_of graph lids) routes.between
    → AllReached (rows_of graph) (order_of routes.between) (homes_of graph lids) → AreRoutesOver over roots routes
are_routes over graph lids roots routes found assigned is_of has made reached =
    record {
      found = subst (IsFound over) (sym is_of) found;
      assigned = rw (is_of, has) assigned;
      made = rw (is_of, has) made;
      reached = rw (is_of, has) reached;
    }

-- and routes that are not made have no path
pub no_path : (over : FabricState) (graph : GraphState) (lids roots : List ℕ) (fault : RouteFault) → IsFound over graph → AreAssigned graph lids
    → IsFaultOf (rows_of graph) (guids_of graph) roots (homes_of graph lids) fault → IsNotSetUp over roots (of_routes fault)
no_path over graph lids roots routes.NoMemory found assigned fault = tt
no_path over graph lids roots (routes.NoLegalPath switch port) found assigned fault =
    record { graph = graph; laid = laid_out over graph found; guids = lids; assigned = assigned; refused = fault }

-- ---- the fabric of a topology is not too big
pub stops : (plan : TopologyState) (fault : FabricFault) → IsSound plan → IsNotSetUp (fabric_of plan) (root_guids plan) fault → Stops plan fault
stops plan fabric.NoMemory sound not = tt
stops plan (fabric.Sweep NoMemory) sound not = not
stops plan (fabric.Sweep NoReply) sound not = not
stops plan (fabric.Sweep WrongReply) sound not = not
stops plan (fabric.Sweep TooManyHops) sound not = not
stops plan (fabric.Sweep TooManyNodes) sound not = not_too_big plan sound not
stops plan (fabric.NoLegalPath switch port) sound not = not
stops plan (fabric.Push fault) sound not = not
