-- What becomes of an inventory's fabric when it is brought up: it is up, or a fault of the fabric stops that.
use Rattle.std.specs.Prelude.{ℕ, ◌≡◌, false, Bool, List, Option, Some, None, Result, Ok, Err}
use Rattle.std.specs.List.{Contains}
use Rattle.smp_wire.specs.FabricState.{FabricState}
use Rattle.subnet_core.specs.declared.fault.RunFault.{RunFault}
use Rattle.subnet_core.specs.declared.fault.RunFault.TheVariants.{NoMemory, Topology, Partitions, Sweep, NoLegalPath, Push, Port, Script, SecondScript, Read, Write}
use Rattle.subnet_core.specs.Inventory.{IsInventoried, InventoryState}
use Rattle.subnet_fabric.specs.BringUp.{HasNoPath, IsBroughtUpBy, IsUnfound, BroughtUpState}
use Rattle.subnet_fabric.specs.Laws.{all_keys}
use Rattle.subnet_fabric.specs.SetUp.{IsByRule}
use Rattle.sa_store.specs.Registry.{RegistryState}
use Rattle.subnet_core.specs.Served.{IsServed}
use Rattle.sa_replies.specs.Answer.{Administration}
use Rattle.sa_replies.specs.State.{IsStateOf, at_start}
use Rattle.subnet_model.specs.declared.subnet_port.SubnetPort.{SubnetPort}
use Rattle.topo_file.specs.Topology.{TopologyState}
use Rattle.updn_routes.specs.Subnet.{RoutesState}

-- ---- a fabric that is up
-- it is that of a topology, brought up by its routes with the keys of the end ports
abbrev pub IsUpOver : TopologyState → List SubnetPort → BroughtUpState → Type 0
IsUpOver plan ports up = IsBroughtUpBy plan (all_keys ports) up.routes up.fabric

-- and by the rule of ties that is asked for
abbrev pub IsUp : InventoryState → BroughtUpState → Type 0
IsUp inventory up = IsUpOver inventory.plan inventory.configuration.ports up × IsByRule inventory.rule up.routes

-- a subnet that runs: who is in it, its fabric and the routes in that, and what subnet administration remembers; after memory
-- was refused it is broken
pub record SubnetState : Type 0 where
  pub inventory : InventoryState
  pub routes : RoutesState
  pub fabric : FabricState
  pub administration : Administration
  pub is_broken : Bool

abbrev pub up_in : SubnetState → BroughtUpState
up_in subnet = record { routes = subnet.routes; fabric = subnet.fabric }

-- if it is not broken, its fabric stands with the cables that are in place, with the masks of exactly those who receive what
-- is sent to groups by the memberships held; and its routes are by the rule of ties that was asked for
abbrev pub StaysUp : SubnetState → Type 0
StaysUp subnet =
    subnet.is_broken ≡ false
    → IsServed subnet.inventory.plan subnet.inventory.configuration.ports subnet.administration.remembered.partitions subnet.routes
    subnet.fabric
    × IsByRule subnet.inventory.rule subnet.routes

-- a registry and a fabric stand as the inventory says, and the registry serves the fabric
pub record Stands (inventory : InventoryState) (routes : RoutesState) (registry : RegistryState) (fabric : FabricState) : Type 0 where
  pub inventoried : IsInventoried inventory
  pub configured : registry.configuration ≡ inventory.configuration
  pub whole : registry.is_broken ≡ false
  pub state : IsStateOf inventory.configuration registry.administration
  pub served : IsServed inventory.plan inventory.configuration.ports registry.administration.remembered.partitions routes fabric
  pub ruled : IsByRule inventory.rule routes

-- before its first command
pub record IsStarted (subnet : SubnetState) : Type 0 where
  pub up : IsUp subnet.inventory (up_in subnet)
  pub administration : subnet.administration ≡ at_start subnet.inventory.configuration
  pub whole : subnet.is_broken ≡ false

-- ---- and one that is not
-- from the switch of this name no up/down path leads to the port of that node and number; all pairs before it, by their
-- LIDs, have one
pub record HasNoPathOf (inventory : InventoryState) (switch node : List ℕ) (number : ℕ) : Type 0 where
  pub from : SubnetPort
  pub from_listed : Contains inventory.configuration.ports from
  pub switch_is : switch ≡ from.node_name
  pub to : SubnetPort
  pub to_listed : Contains inventory.configuration.ports to
  pub node_is : node ≡ to.node_name
  pub number_is : number ≡ to.number
  pub none : HasNoPath inventory.plan from.lid to.lid

abbrev pub IsStopped : InventoryState → RunFault → Type 0
IsStopped inventory (Sweep fault) = IsUnfound inventory.plan fault
IsStopped inventory (NoLegalPath switch node number) = HasNoPathOf inventory switch node number
IsStopped inventory (Push fault) = ⊥
IsStopped inventory NoMemory = ⊥
IsStopped inventory (Topology line cause) = ⊥
IsStopped inventory (Partitions line cause) = ⊥
IsStopped inventory (Port cause) = ⊥
IsStopped inventory (Script line cause) = ⊥
IsStopped inventory (SecondScript line cause) = ⊥
IsStopped inventory Read = ⊥
IsStopped inventory Write = ⊥

abbrev pub ComesTo : InventoryState → Result BroughtUpState RunFault → Type 0
ComesTo inventory (Ok up) = IsUp inventory up
ComesTo inventory (Err NoMemory) = Unit {0}
ComesTo inventory (Err fault) = IsStopped inventory fault

-- ---- what becomes of it: nothing stops it, or this fault; of texts that give no inventory nothing is asked
abbrev pub Becomes : Result InventoryState RunFault → Option RunFault → Type 0
Becomes (Ok inventory) None = (up : BroughtUpState) × IsUp inventory up
Becomes (Ok inventory) (Some fault) = IsStopped inventory fault
Becomes (Err fault) stop = Unit {0}

-- the same, with the fabric and the routes in it if it is up
abbrev pub Turns : Result InventoryState RunFault → Result BroughtUpState RunFault → Type 0
Turns (Ok inventory) (Ok up) = IsUp inventory up
Turns (Ok inventory) (Err fault) = IsStopped inventory fault
Turns (Err fault) outcome = Unit {0}

abbrev pub stop_of : Result BroughtUpState RunFault → Option RunFault
stop_of (Ok up) = None
stop_of (Err fault) = Some fault
