-- How answers of subnet administration come back (IBA volume 1, chapters 13 and 15): the port that received a request sends
-- them to the LID that it came from, and the fabric carries them.
use Rattle.std.specs.Prelude.{ℕ, ◌≡◌, Bool, true, false, ◌==◌, List, [], ◌∷◌, ◌++◌, find, map, Option, Some, None, Ok, Err}
use Rattle.data_packet.specs.QueuePair.{general_services_qp}
use Rattle.data_packet.specs.declared.packet.Packet.{Packet}
use Rattle.data_packet.specs.declared.refusal.Refusal.{Refusal}
use Rattle.fabric_parts.specs.Lid.{is_reserved, manager_lid}
use Rattle.fabric_parts.specs.NodeType.{is_switch_type}
use Rattle.smp_wire.specs.Deliveries.{DeliveryState, HasPort}
use Rattle.pkey_rules.specs.KeyTable.{holds}
use Rattle.smp_wire.specs.FabricState.{FabricState}
use Rattle.subnet_model.specs.Delivery.{is_for_sa, manager_key, port_with_guid, reaches_joined}
use Rattle.subnet_model.specs.Report.{packet_of, received_by, reply_to}
use Rattle.subnet_model.specs.declared.command.SendCommand.{SendCommand}
use Rattle.subnet_model.specs.declared.event.Outcome.TheVariants.{Received}
use Rattle.subnet_model.specs.declared.event.PortEvent.{PortEvent}
use Rattle.subnet_model.specs.declared.subnet_port.SubnetPort.{SubnetPort}
use Rattle.subnet_fabric.specs.SendLaws.{IsSender}
use Rattle.subnet_fabric.specs.OfFabric.{IsFabricOf}
use Rattle.subnet_fabric.specs.Sends.{AreReceived, Stamps, event_of}
use Rattle.subnet_fabric.specs.declared.event.Event.{Event}

-- ---- by what the fabric holds
-- the packet by which a MAD answers a request, under a key
abbrev pub sent_to_reply : DeliveryState → ℕ → List ℕ → SendCommand
sent_to_reply request key mad = record {
  port_guid = request.port;
  dlid = request.packet.slid;
  p_key = key;
  destination_qp = general_services_qp;
  payload = mad;
}

-- these events come of one MAD: those that the fabric delivers, and none if the port will not send it
pub record ComesOfReply (fabric : FabricState) (command : SendCommand) (events : List Event) : Type 0 where
  pub nobody : (HasPort fabric.nodes command.port_guid → ⊥) → events ≡ []
  pub refused : (refusal : Refusal) → Stamps fabric command (Err refusal) → events ≡ []
  pub carried : (packet : Packet) → Stamps fabric command (Ok packet) → AreReceived fabric command.port_guid packet events

-- and these of several, one after another
abbrev pub ComeOfReplies : FabricState → DeliveryState → ℕ → List (List ℕ) → List Event → Type 0
ComeOfReplies fabric request key [] events = events ≡ []
ComeOfReplies fabric request key (mad ∷ mads) events =
    (first rest : List Event) × ComesOfReply fabric (sent_to_reply request key mad) first
    × ComeOfReplies fabric request key mads rest × (events ≡ first ++ rest)

-- ---- in the fabric of a list of ports
-- a request of a listed port that the SM port received, which has a key that matches the one it travels under
pub record IsRequestOf (ports : List SubnetPort) (own : SubnetPort) (request : DeliveryState) (key : ℕ) : Type 0 where
  pub manager : SubnetPort
  pub first : find (λ port. port.lid == manager_lid) ports ≡ Some manager
  pub named : port_with_guid ports request.port ≡ Some manager
  pub manager_adapter : is_switch_type manager.node_type ≡ false
  pub own_named : port_with_guid ports own.guid ≡ Some own
  pub own_adapter : is_switch_type own.node_type ≡ false
  pub own_lid : is_reserved own.lid ≡ false
  pub source : request.packet.slid ≡ own.lid
  pub held : holds request.packet.p_key own.keys ≡ true
  pub key_is : manager_key ports request.packet.p_key ≡ Some key

-- the port that asked receives each MAD, and nothing else happens
abbrev pub RepliesAreAsListed : FabricState → DeliveryState → ℕ → List (List ℕ) → List Event → Type 0
RepliesAreAsListed fabric request key mads events =
    (ports : List SubnetPort) (receives : ℕ → ℕ → Bool) (own : SubnetPort) → IsFabricOf ports receives fabric
    → IsRequestOf ports own request key → map event_of events ≡ map (reply_to own key) mads

-- a packet for subnet administration comes to the SM port if and only if that has a key that matches
abbrev pub received_under : Option ℕ → SubnetPort → Packet → List PortEvent
received_under (Some key) manager packet = record { port_guid = manager.guid; what = Received packet } ∷ []
received_under None manager packet = []

abbrev pub RequestsComeToTheManager : Type 0
RequestsComeToTheManager =
    (ports : List SubnetPort) (receives : ℕ → ℕ → Bool) (fabric : FabricState) (command : SendCommand) (sender manager : SubnetPort)
    → IsFabricOf ports receives fabric → IsSender ports command sender → is_for_sa command ≡ true
    → find (λ port. port.lid == manager_lid) ports ≡ Some manager → is_switch_type manager.node_type ≡ false
    → received_by (reaches_joined (receives command.dlid) command) ports sender command
    ≡ received_under (manager_key ports command.p_key) manager (packet_of sender command)
