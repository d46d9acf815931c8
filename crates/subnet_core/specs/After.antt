-- What stands in a subnet once the commands of a script were carried out.
use Rattle.std.specs.Prelude.{ℕ, ◌≡◌, false, List, [], Option, Some, None, Result, Ok, Err}
use Rattle.fabric_wire.specs.Cabling.{uncut}
use Rattle.fabric_wire.specs.Recabling.{cabling_of}
use Rattle.step_results.specs.AtLine.{AtLine}
use Rattle.step_results.specs.Steps.{◌>>=◌}
use Rattle.subnet_core.specs.Served.{IsServed}
use Rattle.sa_replies.specs.Administration.{subnet_administration}
use Rattle.sa_replies.specs.RunLaws.{remembered_after}
use Rattle.script_lines.specs.Script.{commands_in}
use Rattle.script_lines.specs.declared.script_cause.ScriptCause.{ScriptCause}
use Rattle.subnet_core.specs.BringUp.{Becomes, IsStarted, IsStopped, IsUp, SubnetState, up_in}
use Rattle.subnet_core.specs.Fate.{FailsWith, up_from}
use Rattle.subnet_core.specs.Cabling.{AreCabledAfter}
use Rattle.subnet_core.specs.Inventory.{InventoryState, fault_in, of_text}
use Rattle.subnet_core.specs.declared.fault.RunFault.{RunFault}
use Rattle.subnet_core.specs.declared.fault.RunFault.TheVariants.{Script}
use Rattle.subnet_fabric.specs.BringUp.{BroughtUpState}
use Rattle.subnet_fabric.specs.SetUp.{IsByRule}
use Rattle.subnet_model.specs.Report.{state_from, step_by}
use Rattle.subnet_model.specs.declared.command.Command.{Command}
use Rattle.topo_file.specs.Topology.{TopologyState}

-- the cables are in place that these commands left, one after another from the start, and with them the fabric stands, its masks
-- being those of exactly the ports that receive what is sent to groups then, by the rule of ties that was asked for
pub record IsUpAfter (inventory : InventoryState) (commands : List Command) (up : BroughtUpState) : Type 0 where
  pub cabling : AreCabledAfter inventory.plan commands (uncut inventory.plan.cables) (cabling_of up.fabric)
  pub served : IsServed inventory.plan inventory.configuration.ports (remembered_after inventory.configuration commands).remembered.partitions
      up.routes up.fabric
  pub ruled : IsByRule inventory.rule up.routes

-- how a subnet that takes commands one after another comes there: who is in it stays, and so does that it is whole; what is
-- remembered is the definition's, and so is which cables are in place
pub record IsThrough (commands : List Command) (old new : SubnetState) : Type 0 where
  pub inventory : new.inventory ≡ old.inventory
  pub whole : new.is_broken ≡ old.is_broken
  pub administration : new.administration
      ≡ state_from (step_by subnet_administration old.inventory.configuration) old.administration commands
  pub cabling : AreCabledAfter old.inventory.plan commands (cabling_of old.fabric) (cabling_of new.fabric)

-- ---- a script, if there is one
-- its commands, or its fault
abbrev pub script_read : TopologyState → Option (List ℕ) → Result (List Command) RunFault
script_read plan None = Ok []
script_read plan (Some script) = of_text Script (commands_in plan script)

-- topology and partitions first, then the fabric, and then the whole script
unfoldable pub left_from : Result InventoryState RunFault → Option (List ℕ) → Option RunFault → Result (List Command) RunFault
left_from given script stop = up_from given stop >>= λ inventory. script_read inventory.plan script

-- a subnet that carried out these commands: it is whole, remembers what they left, and its fabric is up after them
pub record IsLeftAfter (commands : List Command) (left : SubnetState) : Type 0 where
  pub whole : left.is_broken ≡ false
  pub administration : left.administration ≡ remembered_after left.inventory.configuration commands
  pub up : IsUpAfter left.inventory commands (up_in left)

-- or the commands of this script; without one it is as it came up
abbrev pub IsLeftBy : Option (List ℕ) → SubnetState → Type 0
IsLeftBy None left = IsStarted left
IsLeftBy (Some script) left = (commands : List Command) × (commands_in left.inventory.plan script ≡ Ok commands) × IsLeftAfter commands left

-- what is answered is the subnet that is left, or the first fault, unless an allocation failed
abbrev pub IsLeft : Result InventoryState RunFault → Option (List ℕ) → Result SubnetState RunFault → Type 0
IsLeft given script (Ok left) = (given ≡ Ok left.inventory) × IsLeftBy script left
IsLeft given script (Err fault) = FailsWith (Becomes given) (fault_in fault) (left_from given script)

-- ---- what becomes of the fabric of texts: this is left of it, or a fault stops it
-- of a script that has a fault nothing is carried out
abbrev pub StandsAfter : InventoryState → BroughtUpState → Result (List Command) (AtLine ScriptCause) → Type 0
StandsAfter inventory up (Ok commands) = IsUpAfter inventory commands up
StandsAfter inventory up (Err at) = IsUp inventory up

abbrev pub StandsBehind : InventoryState → BroughtUpState → Option (List ℕ) → Type 0
StandsBehind inventory up None = IsUp inventory up
StandsBehind inventory up (Some script) = StandsAfter inventory up (commands_in inventory.plan script)

-- of texts that give no inventory nothing is asked
abbrev pub TurnsAfter : Result InventoryState RunFault → Option (List ℕ) → Result BroughtUpState RunFault → Type 0
TurnsAfter (Ok inventory) script (Ok up) = StandsBehind inventory up script
TurnsAfter (Ok inventory) script (Err fault) = IsStopped inventory fault
TurnsAfter (Err fault) script outcome = Unit {0}
