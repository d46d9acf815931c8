-- The headline, of any rule for what a command brings: what a port receives depends only on the ports near it. Each packet comes from
-- one of them, and each record that answers the port from one of them or from the partition file.
use Rattle.std.specs.Prelude.{ℕ, ◌≡◌, ◌↔◌, ◌==◌, true, List, [], ◌∷◌, ◌++◌, Option, Some, None, Ok, filter, flat_map, map}
use Rattle.std.specs.List.{AllByRecursion, list_all}
use Rattle.partition_file.specs.declared.partition.Partition.{Partition}
use Rattle.sa_replies.specs.NamedNotes.{IsNamed}
use Rattle.sa_replies.specs.NamedRuns.{sender_of}
use Rattle.sa_replies.specs.Notes.{NotedAnswer, NotedByte, NotedMad}
use Rattle.sa_replies.specs.RunData.{CarriesBytes, HasItsData, NotedStepRule}
use Rattle.sa_replies.specs.RunSources.{NotedEvent, NotedEvents, NotedState, noted_in, noted_start, noted_step}
use Rattle.sa_replies.specs.Sources.{bytes_from_near}
use Rattle.script_lines.specs.Script.{commands_in}
use Rattle.subnet_core.specs.Headline.{KeepsPartitionsApart}
use Rattle.subnet_core.specs.Inventory.{partitions_for}
use Rattle.subnet_fabric.specs.Ports.{configuration_of}
use Rattle.subnet_model.specs.Configuration.{ConfigurationState}
use Rattle.subnet_model.specs.Configured.{IsConfigured}
use Rattle.subnet_model.specs.Delivery.{port_with_guid}
use Rattle.subnet_model.specs.Near.{is_near}
use Rattle.subnet_model.specs.Report.{events_from, state_from}
use Rattle.subnet_model.specs.Restriction.{commands_of, events_at}
use Rattle.subnet_model.specs.Source.{ComesFromNear}
use Rattle.subnet_model.specs.declared.command.Command.TheVariants.{Ask, Cable, Send}
use Rattle.subnet_model.specs.declared.command.Command.{Command}
use Rattle.subnet_model.specs.declared.event.Outcome.TheVariants.{Received, Refused}
use Rattle.subnet_model.specs.declared.event.Outcome.{Outcome}
use Rattle.subnet_model.specs.declared.event.PortEvent.{PortEvent}
use Rattle.subnet_model.specs.declared.subnet_port.SubnetPort.{SubnetPort}
use Rattle.topo_file.specs.Topology.{TopologyState, topology_of}

-- ---- a run by a rule: its events with what is noted of them, the state after it, and its events alone
abbrev pub noted_by : NotedStepRule → ConfigurationState → List Command → List NotedEvent
noted_by step configuration commands = events_from (step configuration) (noted_start configuration) commands

abbrev pub left_by : NotedStepRule → ConfigurationState → List Command → NotedState
left_by step configuration commands = state_from (step configuration) (noted_start configuration) commands

abbrev pub run_by : NotedStepRule → ConfigurationState → List Command → List PortEvent
run_by step configuration commands = map (λ one. one.event) (noted_by step configuration commands)

-- ---- the answers to a command
-- the MAD that may be for the SA
abbrev pub mad_of : Command → List ℕ
mad_of (Send command) = command.payload
mad_of (Ask command) = command.mad
mad_of (Cable command) = []

-- an event is an answer if something is noted of it; of a packet between two ports, and of a refusal, nothing is
abbrev pub answer_in : Option (List NotedByte) → Outcome → List NotedMad
answer_in None what = []
answer_in (Some bytes) (Received packet) = record { mad = packet.payload; bytes = bytes } ∷ []
answer_in (Some bytes) (Refused refusal) = []

abbrev pub mads_in : List NotedEvent → List NotedMad
mads_in events = flat_map (λ one. answer_in one.noted one.event.what) events

abbrev pub answers_in : NotedEvents → NotedAnswer
answers_in happens = record { mads = mads_in happens.0; state = happens.1.state; notes = happens.1.notes }

-- what is noted of them names the sources that the records themselves name, for the port that sends the command
abbrev pub NamesItsSources : ConfigurationState → NotedState → Command → NotedEvents → Type 0
NamesItsSources configuration noted command happens =
    (own : SubnetPort) → port_with_guid configuration.ports (sender_of command) ≡ Some own
    → IsNamed configuration.ports own (mad_of command) noted.state noted.notes (answers_in happens)

-- this holds of each command, in the state in which it begins
abbrev pub OfEach : NotedStepRule → ConfigurationState → List Command → (NotedState → Command → NotedEvents → Type 0) → Type 0
OfEach step configuration commands Is =
    (before after : List Command) (command : Command) → before ++ (command ∷ after) ≡ commands
    → Is (left_by step configuration before) command (step configuration (left_by step configuration before) command)

-- ---- these are the events of the run by the rule, and at p they are so:
-- depends: they are those that the commands of ports near p alone bring; from: each packet comes from a port near p; whole: of each
-- answer all data are noted; near: each byte that is noted at p is of a port near p, or of the partition file; named: the notes
-- name the source that each record names
pub record IsApart (step : NotedStepRule) (configuration : ConfigurationState) (p : ℕ) (commands : List Command) (events : List PortEvent)
    : Type 0 where
  pub beside : run_by step configuration commands ≡ events
  pub depends : events_at p events ≡ events_at p (run_by step configuration (commands_of (is_near configuration.ports p) commands))
  pub from : ComesFromNear configuration.ports p events
  pub whole : OfEach step configuration commands (λ noted command happens. AllByRecursion (HasItsData command) happens.0)
  pub near : list_all (λ one. bytes_from_near configuration.ports p (noted_in one.noted))
      (filter (λ one. one.event.port_guid == p) (noted_by step configuration commands))
      ≡ true
  pub named : OfEach step configuration commands (NamesItsSources configuration)

-- so it is in each subnet, for each script, at each port
abbrev pub KeepsApart : NotedStepRule → Type 0
KeepsApart step =
    (configuration : ConfigurationState) (commands : List Command) (p : ℕ) → IsConfigured configuration
    → AllByRecursion CarriesBytes commands → IsApart step configuration p commands (run_by step configuration commands)

-- so that a rule which keeps ports apart does so with every script that is accepted: no premise is missing
abbrev pub ScriptsAreKeptApart : Type 0
ScriptsAreKeptApart =
    (step : NotedStepRule) (partitions : List Partition) (plan : TopologyState) (script : List ℕ) (commands : List Command) (p : ℕ)
    → KeepsApart step → IsConfigured (configuration_of partitions plan) → commands_in plan script ≡ Ok commands
    → IsApart step (configuration_of partitions plan) p commands (run_by step (configuration_of partitions plan) commands)

-- it holds of ours
abbrev pub OursKeepsApart : Type 0
OursKeepsApart = KeepsApart noted_step

-- ---- the same of texts that are accepted, and of the events that a run reports
abbrev pub ReportsApart : NotedStepRule → List ℕ → Option (List ℕ) → List ℕ → List PortEvent → Type 0
ReportsApart step topology partitions script events =
    (plan : TopologyState) (all : List Partition) (commands : List Command)
    → topology_of topology ≡ Ok plan → partitions_for partitions ≡ Ok all → commands_in plan script ≡ Ok commands
    → (p : ℕ) → IsApart step (configuration_of all plan) p commands events

-- what `run` promises of its events is this, by our rule
abbrev pub RunsReportApart : Type 0
RunsReportApart =
    (topology : List ℕ) (partitions : Option (List ℕ)) (script : List ℕ) (events : List PortEvent)
    → ReportsApart noted_step topology partitions script events ↔ KeepsPartitionsApart topology partitions script events
