-- What a whole run answers, from its texts alone and from what becomes of the fabric.
use Rattle.std.specs.Prelude.{ℕ, List, Option, Result, Ok}
use Rattle.step_results.specs.AtLine.{on_line}
use Rattle.step_results.specs.Steps.{◌>>=◌}
use Rattle.subnet_core.specs.Fate.{up_from}
use Rattle.subnet_core.specs.Inventory.{of_text, inventory_of}
use Rattle.script_lines.specs.Script.{command_of, commands_in}
use Rattle.subnet_core.specs.declared.fault.RunFault.{RunFault}
use Rattle.subnet_core.specs.declared.fault.RunFault.TheVariants.{Script}
use Rattle.subnet_model.specs.Configuration.{ConfigurationState}
use Rattle.sa_replies.specs.Administration.{subnet_administration}
use Rattle.subnet_model.specs.Report.{report_by}
use Rattle.subnet_model.specs.declared.command.Command.{Command}
use Rattle.subnet_model.specs.declared.event.PortEvent.{PortEvent}
use Rattle.subnet_model.specs.declared.subnet_port.SubnetPort.{SubnetPort}
use Rattle.topo_file.specs.Topology.{TopologyState}

-- a report, and the ports whose names it prints
pub record ReportState : Type 0 where
  pub ports : List SubnetPort
  pub events : List PortEvent

-- the command of one line of a script
abbrev pub parsed : TopologyState → ℕ → List ℕ → Result (Option Command) RunFault
parsed plan number line = of_text Script (on_line number (command_of plan line))

-- what is reported of these commands, one after the other from the start, if subnet administration answers
abbrev pub reported_of : ConfigurationState → List Command → ReportState
reported_of configuration commands = record {
  ports = configuration.ports;
  events = report_by subnet_administration configuration commands;
}

-- topology and partitions first, then the fabric, then the whole script, and only then its commands
unfoldable pub report_of : List ℕ → Option (List ℕ) → List ℕ → Option RunFault → Result ReportState RunFault
report_of topology partitions script stop = do
  inventory ← up_from (inventory_of topology partitions) stop
  commands ← of_text Script (commands_in inventory.plan script)
  Ok (reported_of inventory.configuration commands)
