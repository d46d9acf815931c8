-- Who is in a subnet: its topology, and its end ports and partitions, from two texts alone.
use Rattle.std.specs.Prelude.{ℕ, ◌≡◌, List, Option, Some, None, Result, Ok, Err}
use Rattle.fabric_parts.specs.declared.limits.Limits.TheVariants.{Large}
use Rattle.partition_file.specs.Members.{no_file}
use Rattle.partition_file.specs.Partitions.{partitions_of}
use Rattle.partition_file.specs.Sound.{IsSound as ArePartitions}
use Rattle.partition_file.specs.declared.partition.Partition.{Partition}
use Rattle.step_results.specs.AtLine.{AtLine}
use Rattle.step_results.specs.Gives.{Gives}
use Rattle.step_results.specs.Steps.{◌>>=◌}
use Rattle.subnet_core.specs.declared.fault.RunFault.{RunFault}
use Rattle.subnet_core.specs.declared.fault.RunFault.TheVariants.{NoMemory, Topology, Partitions, Sweep, NoLegalPath, Push, Port, Script, SecondScript, Read, Write}
use Rattle.subnet_model.specs.Configuration.{ConfigurationState}
use Rattle.subnet_fabric.specs.Ports.{configuration_of}
use Rattle.topo_file.specs.Sound.{IsSound}
use Rattle.topo_file.specs.Topology.{TopologyState, topology_of, topology_within}
use Rattle.updn_routes.specs.declared.tie_rule.TieRule.{TieRule}
use Rattle.updn_routes.specs.declared.tie_rule.TieRule.TheVariants.{LeastPort}

-- nodes and cables; the end ports by LID with their keys, and the partitions; and which of its ties a switch is to take
pub record InventoryState : Type 0 where
  pub plan : TopologyState
  pub configuration : ConfigurationState
  pub rule : TieRule

abbrev pub inventoried : TieRule → TopologyState → List Partition → InventoryState
inventoried rule plan partitions = record { plan = plan; configuration = configuration_of partitions plan; rule = rule }

-- some partitions are those that it lists
pub record IsInventoried (inventory : InventoryState) : Type 0 where
  pub topology : IsSound inventory.plan
  pub partitions : List Partition
  pub sound : ArePartitions partitions
  pub listed : inventory.configuration ≡ configuration_of partitions inventory.plan

-- what is wrong with one of the texts, as a fault of the run
abbrev pub of_text : {X Cause : Type 0} → (ℕ → Cause → RunFault) → Result X (AtLine Cause) → Result X RunFault
of_text fault (Ok x) = Ok x
of_text fault (Err at) = Err (fault at.line at.cause)

-- the partitions that a file describes, or those that there are without one
abbrev pub partitions_for : Option (List ℕ) → Result (List Partition) RunFault
partitions_for (Some text) = of_text Partitions (partitions_of text)
partitions_for None = Ok no_file

-- the topology is read first
unfoldable pub inventory_by : TieRule → List ℕ → Option (List ℕ) → Result InventoryState RunFault
inventory_by rule topology partitions = do
  plan ← of_text Topology (topology_of topology)
  all ← partitions_for partitions
  Ok (inventoried rule plan all)

-- by the rule that is taken if none is asked for
abbrev pub inventory_of : List ℕ → Option (List ℕ) → Result InventoryState RunFault
inventory_of topology partitions = inventory_by LeastPort topology partitions

-- the same of a topology of any size, whose fabric need not be simulated
unfoldable pub large_inventory_of : List ℕ → Option (List ℕ) → Result InventoryState RunFault
large_inventory_of topology partitions = do
  plan ← of_text Topology (topology_within Large topology)
  all ← partitions_for partitions
  Ok (inventoried LeastPort plan all)

-- what they give is an inventory
abbrev pub GiveInventories : List ℕ → Option (List ℕ) → Type 0
GiveInventories topology partitions = (inventory : InventoryState) → inventory_of topology partitions ≡ Ok inventory → IsInventoried inventory

-- ---- what is answered is what is given, unless an allocation failed
abbrev pub fault_in : RunFault → Option RunFault
fault_in NoMemory = None
fault_in (Topology line cause) = Some (Topology line cause)
fault_in (Partitions line cause) = Some (Partitions line cause)
fault_in (Sweep fault) = Some (Sweep fault)
fault_in (NoLegalPath switch node number) = Some (NoLegalPath switch node number)
fault_in (Push fault) = Some (Push fault)
fault_in (Port cause) = Some (Port cause)
fault_in (Script line cause) = Some (Script line cause)
fault_in (SecondScript line cause) = Some (SecondScript line cause)
fault_in Read = Some Read
fault_in Write = Some Write

abbrev pub RunGives : {X Y : Type 0} → (X → Y) → Result X RunFault → Result Y RunFault → Type 0
RunGives view answer given = Gives fault_in view answer given
