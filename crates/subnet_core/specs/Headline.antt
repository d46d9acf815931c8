-- What `run` promises: what a port receives depends only on the ports that share a partition with it.
use Rattle.std.specs.Prelude.{ℕ, ◌≡◌, ◌==◌, true, List, ◌∷◌, ◌++◌, Option, Ok, filter, map}
use Rattle.std.specs.List.{AllByRecursion, list_all}
use Rattle.partition_file.specs.declared.partition.Partition.{Partition}
use Rattle.topo_file.specs.Topology.{TopologyState, topology_of}
use Rattle.subnet_model.specs.Configuration.{ConfigurationState}
use Rattle.subnet_model.specs.declared.command.Command.{Command}
use Rattle.subnet_model.specs.declared.event.PortEvent.{PortEvent}
use Rattle.subnet_model.specs.Isolation.{DependsOnNear}
use Rattle.subnet_model.specs.Source.{ComesFromNear}
use Rattle.sa_replies.specs.Sources.{bytes_from_near}
use Rattle.sa_replies.specs.Administration.{subnet_administration}
use Rattle.sa_replies.specs.NamedRuns.{IsRunNamed}
use Rattle.sa_replies.specs.RunData.{HasItsData}
use Rattle.sa_replies.specs.RunSources.{NotedEvent, noted_after, noted_in, noted_report, noted_step}
use Rattle.subnet_fabric.specs.Ports.{configuration_of, ports_of}
use Rattle.subnet_core.specs.Inventory.{partitions_for}
use Rattle.script_lines.specs.Script.{commands_in}

-- the events of a run at p, with what is noted beside them: of each answer the bytes of records, and where each comes from
abbrev pub noted_at : ConfigurationState → ℕ → List Command → List NotedEvent
noted_at configuration p commands = filter (λ one. one.event.port_guid == p) (noted_report configuration commands)

-- what is noted of each event of each command is the data of the answer; nothing is noted of a refusal, or of a packet between two ports
abbrev pub DataIsNoted : ConfigurationState → List Command → Type 0
DataIsNoted configuration commands =
    (before after : List Command) (command : Command) → before ++ (command ∷ after) ≡ commands
    → AllByRecursion (HasItsData command) (noted_step configuration (noted_after configuration before) command).0

-- beside: the notes are of exactly these events; whole: they are their data; near: each byte of an answer to p comes from a port near p
-- or from the partition file; named: each note names the source that the record names, a node and a service their port, a path the
-- port of its DGID, a group who made it, so only of a group is it the file
pub record RecordsComeFromNear (configuration : ConfigurationState) (p : ℕ) (commands : List Command) (events : List PortEvent)
    : Type 0 where
  pub beside : map (λ one. one.event) (noted_report configuration commands) ≡ events
  pub whole : DataIsNoted configuration commands
  pub near : list_all (λ one. bytes_from_near configuration.ports p (noted_in one.noted)) (noted_at configuration p commands) ≡ true
  pub named : IsRunNamed configuration commands

-- Whatever fabric the topology describes, whatever partitions the file gives it, and whatever commands the
-- script gives: at each port the events are those that the commands of the ports near it alone would bring
-- it, each packet that it receives comes from a port near it, which is the one port of its SLID, and each record that
-- subnet administration answers it comes from a port near it, or is a group of the partition file.
abbrev pub KeepsPartitionsApart : List ℕ → Option (List ℕ) → List ℕ → List PortEvent → Type 0
KeepsPartitionsApart topology partitions script events =
    (plan : TopologyState) (all : List Partition) (commands : List Command)
    → topology_of topology ≡ Ok plan → partitions_for partitions ≡ Ok all → commands_in plan script ≡ Ok commands
    → (p : ℕ) → DependsOnNear subnet_administration (configuration_of all plan) p commands events
    × ComesFromNear (ports_of all plan) p events × RecordsComeFromNear (configuration_of all plan) p commands events
