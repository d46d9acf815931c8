-- What a comparison of two scripts says of a port: whether they agree on the commands of the ports near it, and whether its
-- events are equal.
use Rattle.std.specs.Prelude.{ℕ, ◌≡◌, ◌↔◌, true, List, Option, Result, Ok, Err}
use Rattle.step_results.specs.Steps.{◌>>=◌}
use Rattle.sa_replies.specs.Administration.{subnet_administration}
use Rattle.script_lines.specs.NamedPort.{named_adapter_port}
use Rattle.script_lines.specs.Script.{commands_in}
use Rattle.script_lines.specs.declared.script_cause.ScriptCause.{ScriptCause}
use Rattle.subnet_core.specs.Fate.{FailsWith, WithFabric, up_from}
use Rattle.subnet_core.specs.Inventory.{fault_in, of_text, inventory_of}
use Rattle.subnet_core.specs.declared.comparing.Comparison.{Comparison}
use Rattle.subnet_core.specs.declared.fault.RunFault.{RunFault}
use Rattle.subnet_core.specs.declared.fault.RunFault.TheVariants.{Port, Script, SecondScript}
use Rattle.subnet_model.specs.Configuration.{ConfigurationState}
use Rattle.subnet_model.specs.Near.{is_near}
use Rattle.subnet_model.specs.Report.{report_by}
use Rattle.subnet_model.specs.Restriction.{commands_of, events_at}
use Rattle.subnet_model.specs.declared.command.Command.{Command}
use Rattle.subnet_model.specs.declared.event.PortEvent.{PortEvent}
use Rattle.topo_file.specs.Topology.{TopologyState}

-- ---- what of a run concerns a port: the commands of the ports near it, and its own events, in order
pub record PortRunState : Type 0 where
  pub commands : List Command
  pub events : List PortEvent

abbrev pub port_run : ConfigurationState → ℕ → List Command → PortRunState
port_run configuration p commands = record {
  commands = commands_of (is_near configuration.ports p) commands;
  events = events_at p (report_by subnet_administration configuration commands);
}

pub record TwoRunsState : Type 0 where
  pub first : PortRunState
  pub second : PortRunState

-- ---- of two scripts, for the port of a channel adapter that a word names
abbrev pub of_port : {X : Type 0} → Result X ScriptCause → Result X RunFault
of_port (Ok x) = Ok x
of_port (Err cause) = Err (Port cause)

-- its GUID, and the commands of both scripts
pub record TwoScriptsState : Type 0 where
  pub port : ℕ
  pub first : List Command
  pub second : List Command

-- the port first, then the first script whole, and then the second
unfoldable pub two_scripts_of : TopologyState → (first second port : List ℕ) → Result TwoScriptsState RunFault
two_scripts_of plan first second port = do
  guid ← of_port (named_adapter_port plan port)
  commands ← of_text Script (commands_in plan first)
  others ← of_text SecondScript (commands_in plan second)
  Ok (record { port = guid; first = commands; second = others })

abbrev pub two_runs : ConfigurationState → TwoScriptsState → TwoRunsState
two_runs configuration scripts = record {
  first = port_run configuration scripts.port scripts.first;
  second = port_run configuration scripts.port scripts.second;
}

-- and before these topology and partitions, and then the fabric
unfoldable pub two_runs_of : List ℕ → Option (List ℕ) → (first second port : List ℕ) → Option RunFault → Result TwoRunsState RunFault
two_runs_of topology partitions first second port stop = do
  inventory ← up_from (inventory_of topology partitions) stop
  scripts ← two_scripts_of inventory.plan first second port
  Ok (two_runs inventory.configuration scripts)

-- a fault of a script, if that is the second
abbrev pub of_second : RunFault → RunFault
of_second (Script line cause) = SecondScript line cause
of_second fault = fault

-- ---- each of the two truth values says exactly this
pub record Compares (runs : TwoRunsState) (comparison : Comparison) : Type 0 where
  pub scripts_agree : (comparison.scripts_agree ≡ true) ↔ (runs.first.commands ≡ runs.second.commands)
  pub events_equal : (comparison.events_equal ≡ true) ↔ (runs.first.events ≡ runs.second.events)

-- the answer compares what comes of the texts and of the fabric, or is their fault, unless an allocation failed
abbrev pub ComparesRuns : Result Comparison RunFault → (Option RunFault → Type 0) → (Option RunFault → Result TwoRunsState RunFault) → Type 0
ComparesRuns (Ok comparison) Becomes answer = (runs : TwoRunsState) × WithFabric Becomes (λ stop. answer stop ≡ Ok runs) × Compares runs comparison
ComparesRuns (Err fault) Becomes answer = FailsWith Becomes (fault_in fault) answer
