-- What happens in a subnet, command by command, whoever answers what is asked of subnet administration.
use Rattle.std.specs.Prelude.{ℕ, Bool, if◌then◌else◌, List, [], ◌∷◌, ◌++◌, Option, Some, None, filter, fold, map}
use Rattle.data_packet.specs.QueuePair.{general_services_qp}
use Rattle.data_packet.specs.declared.packet.Packet.{Packet}
use Rattle.fabric_parts.specs.Lid.{manager_lid}
use Rattle.data_packet.specs.declared.refusal.Refusal.{Refusal}
use Rattle.data_packet.specs.declared.refusal.Refusal.TheVariants.{KeyNotHeld}
use Rattle.subnet_model.specs.declared.subnet_port.SubnetPort.{SubnetPort}
use Rattle.subnet_model.specs.declared.command.Command.{Command}
use Rattle.subnet_model.specs.declared.command.Command.TheVariants.{Ask, Cable, Send}
use Rattle.subnet_model.specs.declared.command.SendCommand.{SendCommand}
use Rattle.subnet_model.specs.declared.event.PortEvent.{PortEvent}
use Rattle.subnet_model.specs.declared.event.Outcome.TheVariants.{Received, Refused}
use Rattle.subnet_model.specs.Administrator.{Administrator}
use Rattle.subnet_model.specs.Configuration.{ConfigurationState}
use Rattle.subnet_model.specs.Delivery.{asking_key, is_for_sa, manager_key, port_with_guid, reaches_joined, refusal_of}

-- the packet as it arrives
abbrev pub packet_of : SubnetPort → SendCommand → Packet
packet_of sender command = record {
  slid = sender.lid;
  dlid = command.dlid;
  p_key = command.p_key;
  destination_qp = command.destination_qp;
  payload = command.payload;
}

-- each port that the packet reaches receives it
abbrev pub received_by : (SubnetPort → Bool) → List SubnetPort → SubnetPort → SendCommand → List PortEvent
received_by is_reached ports sender command =
    map (λ port. record { port_guid = port.guid; what = Received (packet_of sender command) }) (filter is_reached ports)

abbrev pub unless_refused : {S : Type 0} → Option Refusal → ℕ → S → List PortEvent × S → List PortEvent × S
unless_refused (Some refusal) guid state happens = (record { port_guid = guid; what = Refused refusal } ∷ [], state)
unless_refused None guid state happens = happens

-- ---- what is for subnet administration comes to it at the SM port, and its answers to the port that asked
-- one MAD after another, each answered from what is remembered after the one before
abbrev pub answered_in_turn : {S : Type 0} → (List ℕ → S → List (List ℕ) × S) → List (List ℕ) → S → List (List ℕ) × S
answered_in_turn answer [] state = ([], state)
answered_in_turn answer (mad ∷ mads) state =
    ((answer mad state).0 ++ (answered_in_turn answer mads (answer mad state).1).0, (answered_in_turn answer mads (answer mad state).1).1)

-- the answers to a MAD, then those to the ACKs that its sender returns, each from what is remembered then
abbrev pub answered_whole : {S : Type 0} → (List ℕ → S → List (List ℕ) × S) → (List (List ℕ) → List (List ℕ)) → List ℕ → S
    → List (List ℕ) × S
answered_whole answer acknowledgements mad state = (
  (answer mad state).0 ++ (answered_in_turn answer (acknowledgements (answer mad state).0) (answer mad state).1).0,
  (answered_in_turn answer (acknowledgements (answer mad state).0) (answer mad state).1).1,
)

-- a MAD as the port that asked receives it
abbrev pub reply_to : SubnetPort → ℕ → List ℕ → PortEvent
reply_to own key mad = record {
  port_guid = own.guid;
  what = Received (record { slid = manager_lid; dlid = own.lid; p_key = key; destination_qp = general_services_qp; payload = mad });
}

-- if no key of the SM port matches the packet's, subnet administration does not receive it
abbrev pub replied : {S : Type 0} → SubnetPort → Option ℕ → S → List (List ℕ) × S → List PortEvent × S
replied own (Some key) state answered = (map (reply_to own key) answered.0, answered.1)
replied own None state answered = ([], state)

-- ---- one command
abbrev pub delivered : {S : Type 0} → Administrator S → ConfigurationState → SubnetPort → SendCommand → S → List PortEvent × S
delivered administrator configuration sender command state =
    if is_for_sa command
    then replied sender (manager_key configuration.ports command.p_key) state
    (administrator.answer configuration sender command.payload state)
    else (received_by (reaches_joined (administrator.receives state command.dlid) command) configuration.ports sender command, state)

abbrev pub sent : {S : Type 0} → Administrator S → ConfigurationState → Option SubnetPort → SendCommand → S → List PortEvent × S
sent administrator configuration (Some sender) command state =
    unless_refused (refusal_of sender command) command.port_guid state (delivered administrator configuration sender command state)
sent administrator configuration None command state = ([], state)

-- a port that asks acknowledges what answers it
abbrev pub conversation : {S : Type 0} → Administrator S → ConfigurationState → SubnetPort → Option ℕ → List ℕ → S → List PortEvent × S
conversation administrator configuration own (Some key) mad state =
    replied own (manager_key configuration.ports key) state
    (answered_whole (administrator.answer configuration own) administrator.acknowledgements mad state)
conversation administrator configuration own None mad state =
    (record { port_guid = own.guid; what = Refused KeyNotHeld } ∷ [], state)

abbrev pub asked : {S : Type 0} → Administrator S → ConfigurationState → Option SubnetPort → List ℕ → S → List PortEvent × S
asked administrator configuration (Some own) mad state =
    conversation administrator configuration own (asking_key own.keys) mad state
asked administrator configuration None mad state = ([], state)

-- the events of one command, and the state after it; a cable that is cut or mended brings no event, and leaves what
-- subnet administration remembers
abbrev pub step_by : {S : Type 0} → Administrator S → ConfigurationState → S → Command → List PortEvent × S
step_by administrator configuration state (Send command) =
    sent administrator configuration (port_with_guid configuration.ports command.port_guid) command state
step_by administrator configuration state (Ask command) =
    asked administrator configuration (port_with_guid configuration.ports command.port_guid) command.mad state
step_by administrator configuration state (Cable command) = ([], state)

-- ---- many
-- the events of commands that follow one another from a state
abbrev pub events_from : {S C E : Type 0} → (S → C → List E × S) → S → List C → List E
events_from step state [] = []
events_from step state (command ∷ commands) =
    (step state command).0 ++ events_from step (step state command).1 commands

-- and the state after them
abbrev pub state_from : {S C E : Type 0} → (S → C → List E × S) → S → List C → S
state_from step state commands = fold (λ before command. (step before command).1) state commands

-- the report of a list of commands
abbrev pub report_by : {S : Type 0} → Administrator S → ConfigurationState → List Command → List PortEvent
report_by administrator configuration commands =
    events_from (step_by administrator configuration) (administrator.begins configuration) commands
