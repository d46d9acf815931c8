-- Wrong rules for what a command brings. The headline refuses each: the first word of a comment is the part of it that does.
use Rattle.std.specs.Prelude.{ℕ, ◌≡◌, Bool, false, if◌then◌else◌, List, [], ◌∷◌, ◌++◌, flat_map, length, map, Option, None, Ok, is_some, option_map}
use Rattle.std.specs.List.{AllByRecursion, list_any}
use Rattle.std.specs.Option.{option_map_or}
use Rattle.data_packet.specs.declared.packet.Packet.{Packet}
use Rattle.data_packet.specs.declared.refusal.Refusal.TheVariants.{KeyNotHeld}
use Rattle.headline_laws.specs.Headline.{IsApart, KeepsApart, run_by}
use Rattle.partition_file.specs.declared.partition.Partition.{Partition}
use Rattle.sa_model.specs.Groups.{Creator}
use Rattle.sa_model.specs.Shown.{Entry}
use Rattle.sa_replies.specs.NamedRuns.{sender_of}
use Rattle.sa_replies.specs.Notes.{NotedAnswer, NotedByte}
use Rattle.sa_replies.specs.RunData.{CarriesBytes, NotedStepRule}
use Rattle.sa_replies.specs.RunExamples.{ask, services_wanted}
use Rattle.sa_replies.specs.RunSources.{NotedEvent, NotedEvents, NotedState, noted_replied, noted_step, without_record}
use Rattle.sa_replies.specs.RunWrongRules.{step_noting_no_bytes, step_noting_nothing}
use Rattle.sa_replies.specs.WrongRules.{answer_with_all_nodes}
use Rattle.script_lines.specs.Script.{commands_in}
use Rattle.subnet_core.specs.Headline.{KeepsPartitionsApart}
use Rattle.subnet_core.specs.Inventory.{partitions_for}
use Rattle.subnet_fabric.specs.Ports.{ports_of}
use Rattle.subnet_model.specs.Configuration.{ConfigurationState}
use Rattle.subnet_model.specs.Configured.{IsConfigured}
use Rattle.subnet_model.specs.Delivery.{manager_key, port_with_guid}
use Rattle.subnet_model.specs.Source.{is_from_near}
use Rattle.subnet_model.specs.declared.command.Command.TheVariants.{Ask, Cable, Send}
use Rattle.subnet_model.specs.declared.command.Command.{Command}
use Rattle.subnet_model.specs.declared.command.SendCommand.{SendCommand}
use Rattle.subnet_model.specs.declared.event.Outcome.TheVariants.{Received, Refused}
use Rattle.subnet_model.specs.declared.event.Outcome.{Outcome}
use Rattle.subnet_model.specs.declared.subnet_port.SubnetPort.{SubnetPort}
use Rattle.topo_file.specs.Topology.{TopologyState, topology_of}

-- ---- whole: nothing is noted of any event, or of each answer no byte
abbrev pub NothingNotedIsRefused : Type 0
NothingNotedIsRefused = KeepsApart step_noting_nothing → ⊥

abbrev pub NoBytesAreRefused : Type 0
NoBytesAreRefused = KeepsApart step_noting_no_bytes → ⊥

-- ---- whole: the bytes are noted of the first table that a port asks for, and of no answer after it
abbrev pub is_first_table : List Entry → NotedEvents → NotedEvents → NotedEvents
is_first_table [] first later = first
is_first_table (entry ∷ entries) first later = later

abbrev pub step_noting_once : NotedStepRule
step_noting_once configuration noted command =
    is_first_table (noted.notes (sender_of command)) (noted_step configuration noted command) (step_noting_no_bytes configuration noted command)

abbrev pub LaterAnswersAreNoted : Type 0
LaterAnswersAreNoted = KeepsApart step_noting_once → ⊥

-- ---- whole: of each event is noted what another command would bring
abbrev pub first_noted : List NotedEvent → Option (List NotedByte)
first_noted [] = None
first_noted (one ∷ events) = one.noted

abbrev pub step_noting_another : Command → NotedStepRule
step_noting_another other configuration noted command = (
  map (λ one. record { event = one.event; noted = first_noted (noted_step configuration noted other).0 }) (noted_step configuration noted command).0,
  (noted_step configuration noted command).1,
)

-- a table of services, of which the port has none
abbrev pub NotesAreOfTheirCommand : Type 0
NotesAreOfTheirCommand = KeepsApart (step_noting_another (ask 0x101 (services_wanted 4))) → ⊥

-- ---- named: every note names the partition file; near: every note names one port, which is far from the port that asks
abbrev pub named_as : Creator → NotedEvent → NotedEvent
named_as source one = record {
  event = one.event;
  noted = option_map (λ bytes. map (λ (byte : NotedByte). record { byte = byte.byte; source = source }) bytes) one.noted;
}

abbrev pub step_naming : Creator → NotedStepRule
step_naming source configuration noted command =
    (map (named_as source) (noted_step configuration noted command).0, (noted_step configuration noted command).1)

abbrev pub TheFileIsNoSourceOfAll : Type 0
TheFileIsNoSourceOfAll = KeepsApart (step_naming Creator.PartitionFile) → ⊥

-- or only those of what a port sends to the SA itself
abbrev pub step_naming_sends : Creator → NotedStepRule
step_naming_sends source configuration noted (Send command) = step_naming source configuration noted (Send command)
step_naming_sends source configuration noted (Ask command) = noted_step configuration noted (Ask command)
step_naming_sends source configuration noted (Cable command) = noted_step configuration noted (Cable command)

abbrev pub TheFileIsNoSourceOfSends : Type 0
TheFileIsNoSourceOfSends = KeepsApart (step_naming_sends Creator.PartitionFile) → ⊥

abbrev pub FarPortsAreNoSource : Type 0
FarPortsAreNoSource = KeepsApart (step_naming (Creator.Port 0x121)) → ⊥

-- ---- near: a port that asks for a table of nodes is shown all of them, with the right notes
abbrev pub noted_of : NotedAnswer → NotedState
noted_of answered = record { state = answered.state; notes = answered.notes }

abbrev pub shown_all : ConfigurationState → NotedState → SendCommand → SubnetPort → NotedEvents
shown_all configuration noted command own =
    let answered = answer_with_all_nodes configuration.ports own command.payload noted.state noted.notes in
    noted_replied own (manager_key configuration.ports command.p_key) noted (answered.mads, noted_of answered)

abbrev pub step_showing_all : NotedStepRule
step_showing_all configuration noted (Send command) =
    option_map_or (shown_all configuration noted command) (port_with_guid configuration.ports command.port_guid) ([], noted)
step_showing_all configuration noted (Ask command) = noted_step configuration noted (Ask command)
step_showing_all configuration noted (Cable command) = noted_step configuration noted (Cable command)

abbrev pub FarNodesAreNotShown : Type 0
FarNodesAreNotShown = KeepsApart step_showing_all → ⊥

-- ---- from: a port that sends a packet receives one with the SLID of the last port, which may be far
abbrev pub from_the_last : ConfigurationState → SendCommand → Packet
from_the_last configuration command = record {
  slid = length configuration.ports;
  dlid = command.dlid;
  p_key = command.p_key;
  destination_qp = command.destination_qp;
  payload = [];
}

abbrev pub step_delivering_far : NotedStepRule
step_delivering_far configuration noted (Send command) = (
  without_record (record { port_guid = command.port_guid; what = Received (from_the_last configuration command) })
      ∷ (noted_step configuration noted (Send command)).0,
  (noted_step configuration noted (Send command)).1,
)
step_delivering_far configuration noted (Ask command) = noted_step configuration noted (Ask command)
step_delivering_far configuration noted (Cable command) = noted_step configuration noted (Cable command)

abbrev pub FarPacketsAreNotDelivered : Type 0
FarPacketsAreNotDelivered = KeepsApart step_delivering_far → ⊥

-- ---- depends: if a port refuses to send a packet, all ports receive the refusal
abbrev pub at_all_ports : List SubnetPort → NotedEvent → Outcome → List NotedEvent
at_all_ports ports one (Received packet) = one ∷ []
at_all_ports ports one (Refused refusal) = map (λ port. without_record (record { port_guid = port.guid; what = Refused refusal })) ports

abbrev pub step_refusing_at_all : NotedStepRule
step_refusing_at_all configuration noted command = (
  flat_map (λ one. at_all_ports configuration.ports one one.event.what) (noted_step configuration noted command).0,
  (noted_step configuration noted command).1,
)

abbrev pub RefusalsStayAtTheirPort : Type 0
RefusalsStayAtTheirPort = KeepsApart step_refusing_at_all → ⊥

-- ---- depends: at each port something happens when a cable is cut or mended
abbrev pub told : ConfigurationState → List NotedEvent
told configuration = map (λ port. without_record (record { port_guid = port.guid; what = Refused KeyNotHeld })) configuration.ports

abbrev pub step_telling_cuts : NotedStepRule
step_telling_cuts configuration noted (Send command) = noted_step configuration noted (Send command)
step_telling_cuts configuration noted (Ask command) = noted_step configuration noted (Ask command)
step_telling_cuts configuration noted (Cable command) = (told configuration, (noted_step configuration noted (Cable command)).1)

abbrev pub CutsAreNotTold : Type 0
CutsAreNotTold = KeepsApart step_telling_cuts → ⊥

-- depends: of a packet that any port sends each port receives one, with its own LID as the SLID
abbrev pub from_itself : SendCommand → SubnetPort → NotedEvent
from_itself command port = without_record (record {
  port_guid = port.guid;
  what = Received (record {
    slid = port.lid;
    dlid = command.dlid;
    p_key = command.p_key;
    destination_qp = command.destination_qp;
    payload = [];
  });
})

abbrev pub step_repeating : NotedStepRule
step_repeating configuration noted (Send command) = (
  map (from_itself command) configuration.ports ++ (noted_step configuration noted (Send command)).0,
  (noted_step configuration noted (Send command)).1,
)
step_repeating configuration noted (Ask command) = noted_step configuration noted (Ask command)
step_repeating configuration noted (Cable command) = noted_step configuration noted (Cable command)

abbrev pub FarSendsAreNotRepeated : Type 0
FarSendsAreNotRepeated = KeepsApart step_repeating → ⊥

-- depends: while an RMPP transfer to any port is in progress, each command brings every port an event
abbrev pub has_open_table : NotedState → Bool
has_open_table noted = list_any (λ place. is_some place.open_table) noted.state.transfers

abbrev pub step_telling_tables : NotedStepRule
step_telling_tables configuration noted command =
    if has_open_table noted
    then (told configuration, (noted_step configuration noted command).1)
    else noted_step configuration noted command

abbrev pub FarTablesAreNotHeard : Type 0
FarTablesAreNotHeard = KeepsApart step_telling_tables → ⊥

-- ---- one premise more: of empty scripts alone
abbrev pub KeepsApartIfEmpty : NotedStepRule → Type 0
KeepsApartIfEmpty step =
    (configuration : ConfigurationState) (commands : List Command) (p : ℕ) → length commands ≡ 0 → IsConfigured configuration
    → AllByRecursion CarriesBytes commands → IsApart step configuration p commands (run_by step configuration commands)

abbrev pub EmptyScriptsAreNotEnough : Type 0
EmptyScriptsAreNotEnough = ((step : NotedStepRule) → KeepsApartIfEmpty step → KeepsApart step) → ⊥

-- and of whatever texts are accepted: `run` may not report that p receives a packet which does not come from near it
abbrev pub RunsReportNoFarPacket : Type 0
RunsReportNoFarPacket =
    (topology : List ℕ) (partitions : Option (List ℕ)) (script : List ℕ) (plan : TopologyState) (all : List Partition)
    (commands : List Command) (p : ℕ) (packet : Packet)
    → topology_of topology ≡ Ok plan → partitions_for partitions ≡ Ok all → commands_in plan script ≡ Ok commands
    → is_from_near (ports_of all plan) p packet ≡ false
    → KeepsPartitionsApart topology partitions script (record { port_guid = p; what = Received packet } ∷ []) → ⊥
