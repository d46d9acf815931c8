-- What comes of a command to send, and of one to ask, by what the ports and switches of a fabric hold (InfiniBand volume
-- 1, chapter 14): events, or a request to subnet administration, which the fabric delivers as it does any packet.
use Rattle.std.specs.Prelude.{ℕ, ◌≡◌, Bool, true, false, ◌&&◌, List, [], ◌∷◌, map, Option, Some, None, Result, Ok, Err, is_none}
use Rattle.data_packet.specs.QueuePair.{general_services_qp}
use Rattle.data_packet.specs.declared.packet.Packet.{Packet}
use Rattle.data_packet.specs.declared.refusal.Refusal.{Refusal}
use Rattle.data_packet.specs.declared.refusal.Refusal.TheVariants.{KeyNotHeld, PortNotActive, QpZero, ReservedDlid}
use Rattle.fabric_parts.specs.Lid.{manager_lid}
use Rattle.fabric_parts.specs.declared.cable.PortRef.{PortRef}
use Rattle.smp_wire.specs.Deliveries.{AreDeliveries, DeliveryState, HasPort, adapter_at}
use Rattle.pkey_rules.specs.PKey.{default_base, key_of}
use Rattle.port_model.specs.AdapterState.{AdapterState}
use Rattle.port_model.specs.Packets.{stamped}
use Rattle.smp_wire.specs.FabricState.{FabricState}
use Rattle.subnet_model.specs.Delivery.{asking_key, is_for_sa, reaches_joined, refusal_of, sent_to_ask}
use Rattle.subnet_model.specs.Report.{received_by}
use Rattle.subnet_model.specs.declared.command.AskCommand.{AskCommand}
use Rattle.subnet_model.specs.declared.command.SendCommand.{SendCommand}
use Rattle.subnet_model.specs.declared.event.PortEvent.{PortEvent}
use Rattle.subnet_model.specs.declared.event.Outcome.TheVariants.{Refused as RefusedToSend}
use Rattle.subnet_model.specs.declared.subnet_port.SubnetPort.{SubnetPort}
use Rattle.subnet_fabric.specs.SendLaws.{IsSender, reported}
use Rattle.subnet_fabric.specs.OfFabric.{IsFabricOf}
use Rattle.subnet_fabric.specs.declared.event.Event.{Event}
use Rattle.subnet_fabric.specs.declared.event.Event.TheVariants.{Received, Refused}
use Rattle.subnet_fabric.specs.declared.sent.Sent.{Sent}
use Rattle.subnet_fabric.specs.declared.sent.Sent.TheVariants.{Events, Request}

-- an event of a fabric's port, as a subnet reports it
abbrev pub event_of : Event → PortEvent
event_of (Received delivered) = reported delivered
event_of (Refused port_guid refusal) = record { port_guid = port_guid; what = RefusedToSend refusal }

-- ---- what comes of a command: events; of a request, what is delivered of it
abbrev pub events_in : Sent → List Event
events_in (Events events) = events.items
events_in (Request deliveries) = map Received deliveries.items

abbrev pub is_request : Sent → Bool
is_request (Events events) = false
is_request (Request deliveries) = true

abbrev pub reported_in : Sent → List PortEvent
reported_in sent = map event_of (events_in sent)

-- these events, and no request
abbrev pub AreEvents : Sent → List Event → Type 0
AreEvents sent events = (events_in sent ≡ events) × (is_request sent ≡ false)

-- ---- by what the fabric holds
-- some port of a channel adapter has the command's GUID, and its stamp gives this: a packet, or why it sends none
pub record Stamps (fabric : FabricState) (command : SendCommand) (given : Result Packet Refusal) : Type 0 where
  pub at : PortRef
  pub sender : AdapterState
  pub there : adapter_at fabric.nodes at ≡ Some sender
  pub guid : sender.port_guid ≡ command.port_guid
  pub gives : stamped sender command.dlid command.p_key command.destination_qp command.payload ≡ given

-- the packet is received at each port that it reaches from the one of that GUID, and nothing else happens
pub record AreReceived (fabric : FabricState) (sender : ℕ) (packet : Packet) (events : List Event) : Type 0 where
  pub deliveries : List DeliveryState
  pub are : AreDeliveries fabric sender packet deliveries
  pub reported : events ≡ map Received deliveries

-- this comes of the command
pub record ComesOf (fabric : FabricState) (command : SendCommand) (sent : Sent) : Type 0 where
  -- if no port of a channel adapter has its GUID, nothing happens
  pub nobody : (HasPort fabric.nodes command.port_guid → ⊥) → AreEvents sent []
  pub refused : (refusal : Refusal) → Stamps fabric command (Err refusal)
      → AreEvents sent (Refused command.port_guid refusal ∷ [])
  pub carried : (packet : Packet) → Stamps fabric command (Ok packet) → AreReceived fabric command.port_guid packet (events_in sent)
  -- it is a request if and only if it is for subnet administration
  pub request : (packet : Packet) → Stamps fabric command (Ok packet) → is_request sent ≡ is_for_sa command

-- ---- in the fabric of a list of ports this is what the list reports
-- the refusal, or these events
abbrev pub events_unless : Option Refusal → ℕ → List PortEvent → List PortEvent
events_unless (Some refusal) guid events = record { port_guid = guid; what = RefusedToSend refusal } ∷ []
events_unless None guid events = events

pub record IsAsListed (ports : List SubnetPort) (receives : ℕ → ℕ → Bool) (sender : SubnetPort) (command : SendCommand)
    (refusal : Option Refusal) (sent : Sent) : Type 0 where
  pub events : reported_in sent
      ≡ events_unless refusal command.port_guid (received_by (reaches_joined (receives command.dlid) command) ports sender command)
  pub request : is_request sent ≡ (is_none refusal && is_for_sa command)

abbrev pub SendIsAsListed : FabricState → SendCommand → Sent → Type 0
SendIsAsListed fabric command sent =
    (ports : List SubnetPort) (receives : ℕ → ℕ → Bool) (sender : SubnetPort) → IsFabricOf ports receives fabric → IsSender ports command sender
    → IsAsListed ports receives sender command (refusal_of sender command) sent

-- ---- a command to ask
-- what a port sends that asks under the key of a full or a limited member of the default partition
abbrev pub asked_as : AskCommand → Bool → SendCommand
asked_as command full = sent_to_ask command (key_of default_base full)

abbrev pub stamped_as : AdapterState → AskCommand → Bool → Result Packet Refusal
stamped_as own command full = stamped own manager_lid (key_of default_base full) general_services_qp command.mad

-- its stamp gives the first that it holds the key of
abbrev pub first_held : Result Packet Refusal → Result Packet Refusal → Result Packet Refusal
first_held (Err KeyNotHeld) limited = limited
first_held (Err QpZero) limited = Err QpZero
first_held (Err ReservedDlid) limited = Err ReservedDlid
first_held (Err PortNotActive) limited = Err PortNotActive
first_held (Ok packet) limited = Ok packet

abbrev pub given_to_ask : AdapterState → AskCommand → Result Packet Refusal
given_to_ask own command = first_held (stamped_as own command true) (stamped_as own command false)

-- its packet is a request
abbrev pub AsksBy : FabricState → ℕ → Result Packet Refusal → Sent → Type 0
AsksBy fabric port_guid (Ok packet) sent = AreReceived fabric port_guid packet (events_in sent) × (is_request sent ≡ true)
AsksBy fabric port_guid (Err refusal) sent = AreEvents sent (Refused port_guid refusal ∷ [])

pub record ComesOfAsk (fabric : FabricState) (command : AskCommand) (sent : Sent) : Type 0 where
  pub nobody : (HasPort fabric.nodes command.port_guid → ⊥) → AreEvents sent []
  pub asked : (at : PortRef) (own : AdapterState) → adapter_at fabric.nodes at ≡ Some own → own.port_guid ≡ command.port_guid
      → AsksBy fabric command.port_guid (given_to_ask own command) sent

-- in the fabric of a list of ports: a request under the key by which the port asks, if it has one
abbrev pub AsksAsListed : List SubnetPort → (ℕ → ℕ → Bool) → SubnetPort → AskCommand → Option ℕ → Sent → Type 0
AsksAsListed ports receives own command (Some key) sent = IsAsListed ports receives own (sent_to_ask command key) None sent
AsksAsListed ports receives own command None sent =
    (reported_in sent ≡ record { port_guid = own.guid; what = RefusedToSend KeyNotHeld } ∷ []) × (is_request sent ≡ false)

abbrev pub AskIsAsListed : FabricState → AskCommand → Sent → Type 0
AskIsAsListed fabric command sent =
    (ports : List SubnetPort) (receives : ℕ → ℕ → Bool) (own : SubnetPort) → IsFabricOf ports receives fabric
    → IsSender ports (asked_as command true) own → AsksAsListed ports receives own command (asking_key own.keys) sent
