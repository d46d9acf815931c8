-- What the fabric of a topology is when it is brought up, and when it is not.
use Rattle.std.specs.Prelude.{ℕ, List, map, Result, Ok, Err}
use Rattle.fabric_wire.specs.OfTopology.{fabric_of}
use Rattle.smp_wire.specs.FabricState.{FabricState}
use Rattle.subnet_fabric.specs.SetUp.{HasNoPathFrom, IsSetUpBy}
use Rattle.subnet_fabric.specs.declared.fault.FabricFault.{FabricFault}
use Rattle.subnet_fabric.specs.declared.fault.FabricFault.TheVariants.{NoMemory, Sweep, NoLegalPath, Push}
use Rattle.sweep.specs.Hops.{IsTooFar}
use Rattle.sweep.specs.declared.fault.SweepFault.{SweepFault}
use Rattle.sweep.specs.declared.fault.SweepFault.TheVariants as sweep
use Rattle.topo_file.specs.Topology.{TopologyState}
use Rattle.topo_file.specs.Node.{guid_at}
use Rattle.updn_routes.specs.Subnet.{RoutesState}

-- ---- how it comes about
-- roots are named by their GUIDs
abbrev pub root_guids : TopologyState → List ℕ
root_guids plan = map (guid_at plan.nodes) plan.roots

-- the fabric at power-up, set up from the topology's roots
abbrev pub IsBroughtUpBy : TopologyState → List (List ℕ) → RoutesState → FabricState → Type 0
IsBroughtUpBy plan keys routes fabric = IsSetUpBy (fabric_of plan) (root_guids plan) keys routes fabric

pub record IsBroughtUpOf (plan : TopologyState) (keys : List (List ℕ)) (fabric : FabricState) : Type 0 where
  pub routes : RoutesState
  pub by : IsBroughtUpBy plan keys routes fabric

-- a fabric that is up, and the routes that brought it there
pub record BroughtUpState : Type 0 where
  pub routes : RoutesState
  pub fabric : FabricState

-- ---- why it does not
-- between a switch and a port there is no up/down path, and between no earlier pair, by their LIDs
abbrev pub HasNoPath : TopologyState → ℕ → ℕ → Type 0
HasNoPath plan switch port = HasNoPathFrom (fabric_of plan) (root_guids plan) switch port

-- of a sweep's faults there is one, and of a push's none
abbrev pub IsUnfound : TopologyState → SweepFault → Type 0
IsUnfound plan sweep.NoMemory = ⊥
IsUnfound plan sweep.NoReply = ⊥
IsUnfound plan sweep.WrongReply = ⊥
IsUnfound plan sweep.TooManyHops = IsTooFar (fabric_of plan)
IsUnfound plan sweep.TooManyNodes = ⊥

abbrev pub Stops : TopologyState → FabricFault → Type 0
Stops plan NoMemory = Unit {0}
Stops plan (Sweep fault) = IsUnfound plan fault
Stops plan (NoLegalPath switch port) = HasNoPath plan switch port
Stops plan (Push fault) = ⊥

-- ---- what is answered
abbrev pub ComesUp : TopologyState → List (List ℕ) → Result BroughtUpState FabricFault → Type 0
ComesUp plan keys (Ok up) = IsBroughtUpBy plan keys up.routes up.fabric
ComesUp plan keys (Err fault) = Stops plan fault
