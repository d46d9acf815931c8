-- A run with what is noted beside it: where the bytes of the records come from that ports receive.
use Rattle.std.specs.Prelude.{ℕ, ◌≡◌, true, List, [], ◌∷◌, ◌++◌, if◌then◌else◌, map, Option, Some, None}
use Rattle.std.specs.List.{list_all}
use Rattle.data_packet.specs.declared.refusal.Refusal.{Refusal}
use Rattle.data_packet.specs.declared.refusal.Refusal.TheVariants.{KeyNotHeld}
use Rattle.subnet_model.specs.Configuration.{ConfigurationState}
use Rattle.subnet_model.specs.Delivery.{asking_key, is_for_sa, manager_key, port_with_guid, reaches_joined, refusal_of}
use Rattle.subnet_model.specs.Report.{events_from, received_by, reply_to, report_by, state_from}
use Rattle.subnet_model.specs.declared.command.Command.{Command}
use Rattle.subnet_model.specs.declared.command.Command.TheVariants.{Ask, Cable, Send}
use Rattle.subnet_model.specs.declared.command.SendCommand.{SendCommand}
use Rattle.subnet_model.specs.declared.event.PortEvent.{PortEvent}
use Rattle.subnet_model.specs.declared.event.Outcome.TheVariants.{Refused}
use Rattle.subnet_model.specs.declared.subnet_port.SubnetPort.{SubnetPort}
use Rattle.sa_model.specs.Delivery.{is_receiver_of}
use Rattle.sa_replies.specs.Answer.{Administration}
use Rattle.sa_replies.specs.Notes.{NotedByte, NotedMad, Notes, answer_noted, no_notes}
use Rattle.sa_replies.specs.Sources.{NotesFromNear, EncodeTables, bytes_from_near}
use Rattle.sa_replies.specs.Administration.{subnet_administration}
use Rattle.sa_replies.specs.State.{at_start}
use Rattle.sa_replies.specs.Asking.{acknowledgements}
use Rattle.sa_replies.specs.RunLaws.{remembered_after}

-- what is remembered, and what is noted beside it
pub record NotedState : Type 0 where
  pub state : Administration
  pub notes : Notes

-- an event, and what is noted of it: of a MAD that answers, the bytes of records that it brings its port; of a packet
-- between two ports, and of a refusal, nothing
pub record NotedEvent : Type 0 where
  pub event : PortEvent
  pub noted : Option (List NotedByte)

abbrev pub noted_in : Option (List NotedByte) → List NotedByte
noted_in (Some bytes) = bytes
noted_in None = []

-- ---- MADs of a port that come to subnet administration: one, one after another, and one with those that acknowledge it
abbrev pub NotedMads : Type 0
NotedMads = List NotedMad × NotedState

abbrev pub noted_mad : List SubnetPort → SubnetPort → List ℕ → NotedState → NotedMads
noted_mad ports own mad noted = (
  (answer_noted ports own mad noted.state noted.notes).mads,
  record {
    state = (answer_noted ports own mad noted.state noted.notes).state;
    notes = (answer_noted ports own mad noted.state noted.notes).notes;
  },
)

abbrev pub noted_in_turn : List SubnetPort → SubnetPort → List (List ℕ) → NotedState → NotedMads
noted_in_turn ports own [] noted = ([], noted)
noted_in_turn ports own (mad ∷ mads) noted = (
  (noted_mad ports own mad noted).0 ++ (noted_in_turn ports own mads (noted_mad ports own mad noted).1).0,
  (noted_in_turn ports own mads (noted_mad ports own mad noted).1).1,
)

abbrev pub acknowledging : List NotedMad → List (List ℕ)
acknowledging mads = acknowledgements (map (λ one. one.mad) mads)

abbrev pub noted_whole : List SubnetPort → SubnetPort → List ℕ → NotedState → NotedMads
noted_whole ports own mad noted = (
  (noted_mad ports own mad noted).0
      ++ (noted_in_turn ports own (acknowledging (noted_mad ports own mad noted).0) (noted_mad ports own mad noted).1).0,
  (noted_in_turn ports own (acknowledging (noted_mad ports own mad noted).0) (noted_mad ports own mad noted).1).1,
)

-- ---- the events of a command: those that answer bring records; a packet between two ports and a refusal bring none
abbrev pub NotedEvents : Type 0
NotedEvents = List NotedEvent × NotedState

abbrev pub noted_reply_to : SubnetPort → ℕ → NotedMad → NotedEvent
noted_reply_to own key one = record { event = reply_to own key one.mad; noted = Some one.bytes }

abbrev pub without_record : PortEvent → NotedEvent
without_record event = record { event = event; noted = None }

abbrev pub noted_replied : SubnetPort → Option ℕ → NotedState → NotedMads → NotedEvents
noted_replied own (Some key) noted reported = (map (noted_reply_to own key) reported.0, reported.1)
noted_replied own None noted reported = ([], noted)

abbrev pub noted_unless_refused : Option Refusal → ℕ → NotedState → NotedEvents → NotedEvents
noted_unless_refused (Some refusal) guid noted happens =
    (without_record (record { port_guid = guid; what = Refused refusal }) ∷ [], noted)
noted_unless_refused None guid noted happens = happens

abbrev pub noted_delivered : ConfigurationState → SubnetPort → SendCommand → NotedState → NotedEvents
noted_delivered configuration sender command noted =
    if is_for_sa command
    then noted_replied sender (manager_key configuration.ports command.p_key) noted
    (noted_mad configuration.ports sender command.payload noted)
    else (
      map without_record
          (received_by (reaches_joined (is_receiver_of noted.state.remembered.partitions command.dlid) command) configuration.ports
          sender command),
      noted,
    )

abbrev pub noted_sent : ConfigurationState → Option SubnetPort → SendCommand → NotedState → NotedEvents
noted_sent configuration (Some sender) command noted =
    noted_unless_refused (refusal_of sender command) command.port_guid noted (noted_delivered configuration sender command noted)
noted_sent configuration None command noted = ([], noted)

abbrev pub noted_conversation : ConfigurationState → SubnetPort → Option ℕ → List ℕ → NotedState → NotedEvents
noted_conversation configuration own (Some key) mad noted =
    noted_replied own (manager_key configuration.ports key) noted (noted_whole configuration.ports own mad noted)
noted_conversation configuration own None mad noted =
    (without_record (record { port_guid = own.guid; what = Refused KeyNotHeld }) ∷ [], noted)

abbrev pub noted_asked : ConfigurationState → Option SubnetPort → List ℕ → NotedState → NotedEvents
noted_asked configuration (Some own) mad noted = noted_conversation configuration own (asking_key own.keys) mad noted
noted_asked configuration None mad noted = ([], noted)

abbrev pub noted_step : ConfigurationState → NotedState → Command → NotedEvents
noted_step configuration noted (Send command) =
    noted_sent configuration (port_with_guid configuration.ports command.port_guid) command noted
noted_step configuration noted (Ask command) =
    noted_asked configuration (port_with_guid configuration.ports command.port_guid) command.mad noted
noted_step configuration noted (Cable command) = ([], noted)

-- ---- a run: at the start nothing is noted
abbrev pub noted_start : ConfigurationState → NotedState
noted_start configuration = record { state = at_start configuration; notes = no_notes }

abbrev pub noted_report : ConfigurationState → List Command → List NotedEvent
noted_report configuration commands = events_from (noted_step configuration) (noted_start configuration) commands

abbrev pub noted_after : ConfigurationState → List Command → NotedState
noted_after configuration commands = state_from (noted_step configuration) (noted_start configuration) commands

-- ---- without what is noted it is the report, event by event, and what is remembered
pub record IsBesideRun (configuration : ConfigurationState) (commands : List Command) : Type 0 where
  pub events : map (λ one. one.event) (noted_report configuration commands)
      ≡ report_by subnet_administration configuration commands
  pub state : (noted_after configuration commands).state ≡ remembered_after configuration commands

abbrev pub NotesStandBesideRuns : Type 0
NotesStandBesideRuns = (configuration : ConfigurationState) (commands : List Command) → IsBesideRun configuration commands

-- ---- at any time the records that are noted for a port encode the table that is open to it
abbrev pub OpenTablesAreNoted : Type 0
OpenTablesAreNoted =
    (configuration : ConfigurationState) (commands : List Command)
    → EncodeTables (noted_after configuration commands).notes (remembered_after configuration commands).transfers

-- ---- each byte of a record that a port receives comes from a port near it or from the partition file
abbrev pub BringFromNear : List SubnetPort → List NotedEvent → Type 0
BringFromNear ports events = list_all (λ one. bytes_from_near ports one.event.port_guid (noted_in one.noted)) events ≡ true

-- and so do the records of the table that is open to it
pub record IsRunFromNear (configuration : ConfigurationState) (commands : List Command) : Type 0 where
  pub events : BringFromNear configuration.ports (noted_report configuration commands)
  pub tables : NotesFromNear configuration.ports (noted_after configuration commands).notes

abbrev pub RunRecordsComeFromNear : Type 0
RunRecordsComeFromNear = (configuration : ConfigurationState) (commands : List Command) → IsRunFromNear configuration commands
