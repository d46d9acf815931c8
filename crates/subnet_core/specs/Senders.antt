-- Commands and their senders, and what comes of a command over a fabric.
use Rattle.std.specs.Prelude.{ℕ, ◌≡◌, true, false, List, [], ◌∷◌, ◌++◌, Some, Ok, Err}
use Rattle.data_packet.specs.declared.packet.Packet.{Packet}
use Rattle.data_packet.specs.declared.refusal.Refusal.{Refusal}
use Rattle.fabric_parts.specs.declared.cable.PortRef.{PortRef}
use Rattle.smp_wire.specs.Deliveries.{AreDeliveries, DeliveryState, HasPort, adapter_at}
use Rattle.port_model.specs.AdapterState.{AdapterState}
use Rattle.smp_wire.specs.FabricState.{FabricState}
use Rattle.smp_wire.specs.declared.node.Node.{Node}
use Rattle.subnet_model.specs.Delivery.{is_for_sa}
use Rattle.subnet_model.specs.declared.command.AskCommand.{AskCommand}
use Rattle.subnet_model.specs.declared.command.Command.{Command}
use Rattle.subnet_model.specs.declared.command.Command.TheVariants.{Ask, Cable, Send}
use Rattle.subnet_model.specs.declared.command.SendCommand.{SendCommand}
use Rattle.subnet_model.specs.declared.subnet_port.SubnetPort.{SubnetPort}
use Rattle.subnet_fabric.specs.Replies.{ComeOfReplies}
use Rattle.subnet_fabric.specs.Sends.{AreReceived, Stamps, asked_as, given_to_ask}
use Rattle.subnet_fabric.specs.declared.event.Event.{Event}
use Rattle.subnet_fabric.specs.declared.event.Event.TheVariants.{Refused}
use Rattle.subnet_fabric.specs.SendLaws.{IsSender}

-- a command names a listed port of a channel adapter, if it is one of a port
abbrev pub NamesSender : List SubnetPort → Command → Type 0
NamesSender ports (Send command) = (sender : SubnetPort) × IsSender ports command sender
NamesSender ports (Ask command) = (sender : SubnetPort) × IsSender ports (asked_as command true) sender
NamesSender ports (Cable command) = Unit {0}

-- a port of a channel adapter has the GUID that it names
abbrev pub HasSender : List Node → Command → Type 0
HasSender nodes (Send command) = HasPort nodes command.port_guid
HasSender nodes (Ask command) = HasPort nodes command.port_guid
HasSender nodes (Cable command) = Unit {0}

-- the port that a command names refuses to send
abbrev pub Refuses : FabricState → Command → Type 0
Refuses fabric (Send command) = (refusal : Refusal) × Stamps fabric command (Err refusal)
Refuses fabric (Ask command) =
    (at : PortRef) × (own : AdapterState) × (refusal : Refusal) × (adapter_at fabric.nodes at ≡ Some own)
    × (own.port_guid ≡ command.port_guid) × (given_to_ask own command ≡ Err refusal)
Refuses fabric (Cable command) = ⊥

-- ---- these events come of a command, by what the ports and switches of the fabric hold; the fabric that is left may have
-- other masks, since who receives what is sent to groups may be others
-- what was received of a request is answered by MADs that the port sends back that received it, under one key
abbrev pub AreSentBack : FabricState → List DeliveryState → List Event → Type 0
AreSentBack left [] events = events ≡ []
AreSentBack left (request ∷ rest) events = (key : ℕ) × (mads : List (List ℕ)) × ComeOfReplies left request key mads events

-- the packet of a request is delivered, and what answers it is sent back
pub record IsAnswered (was left : FabricState) (sender : ℕ) (packet : Packet) (events : List Event) : Type 0 where
  pub deliveries : List DeliveryState
  pub are : AreDeliveries was sender packet deliveries
  pub back : AreSentBack left deliveries events

pub record SendComes (was left : FabricState) (command : SendCommand) (events : List Event) : Type 0 where
  -- if no port of a channel adapter has its GUID, nothing happens
  pub nobody : (HasPort was.nodes command.port_guid → ⊥) → events ≡ []
  pub refused : (refusal : Refusal) → Stamps was command (Err refusal) → events ≡ Refused command.port_guid refusal ∷ []
  -- what is for subnet administration is answered; all else is received where the fabric delivers it
  pub answered : (packet : Packet) → Stamps was command (Ok packet) → is_for_sa command ≡ true
      → IsAnswered was left command.port_guid packet events
  pub carried : (packet : Packet) → Stamps was command (Ok packet) → is_for_sa command ≡ false
      → AreReceived was command.port_guid packet events

-- of one MAD that a port asks
pub record MadComes (was left : FabricState) (command : AskCommand) (events : List Event) : Type 0 where
  pub nobody : (HasPort was.nodes command.port_guid → ⊥) → events ≡ []
  pub refused : (at : PortRef) (own : AdapterState) (refusal : Refusal) → adapter_at was.nodes at ≡ Some own
      → own.port_guid ≡ command.port_guid → given_to_ask own command ≡ Err refusal
      → events ≡ Refused command.port_guid refusal ∷ []
  pub answered : (at : PortRef) (own : AdapterState) (packet : Packet) → adapter_at was.nodes at ≡ Some own
      → own.port_guid ≡ command.port_guid → given_to_ask own command ≡ Ok packet
      → IsAnswered was left command.port_guid packet events

-- of several, one after another, each over the fabric that the one before left
abbrev pub MadsCome : FabricState → FabricState → ℕ → List (List ℕ) → List Event → Type 0
MadsCome was left port_guid [] events = (was ≡ left) × (events ≡ [])
MadsCome was left port_guid (mad ∷ mads) events =
    (between : FabricState) × (first rest : List Event) × MadComes was between (record { port_guid = port_guid; mad = mad }) first
    × MadsCome between left port_guid mads rest × (events ≡ first ++ rest)

-- a port asks, and acknowledges what answers it
pub record AskComes (was left : FabricState) (command : AskCommand) (events : List Event) : Type 0 where
  pub nobody : (HasPort was.nodes command.port_guid → ⊥) → events ≡ []
  pub refused : (at : PortRef) (own : AdapterState) (refusal : Refusal) → adapter_at was.nodes at ≡ Some own
      → own.port_guid ≡ command.port_guid → given_to_ask own command ≡ Err refusal
      → events ≡ Refused command.port_guid refusal ∷ []
  pub acks : List (List ℕ)
  pub answered : MadsCome was left command.port_guid (command.mad ∷ acks) events

abbrev pub Comes : FabricState → FabricState → Command → List Event → Type 0
Comes was left (Send command) events = SendComes was left command events
Comes was left (Ask command) events = AskComes was left command events
Comes was left (Cable command) events = events ≡ []
