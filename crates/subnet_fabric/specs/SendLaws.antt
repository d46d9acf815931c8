-- What a subnet reports of a packet is what its fabric does with it: the statements of the laws of `src/send_laws.rt`.
use Rattle.std.specs.Prelude.{ℕ, ◌≡◌, Bool, false, List, map, Some, None}
use Rattle.fabric_parts.specs.NodeType.{is_switch_type}
use Rattle.fabric_parts.specs.declared.cable.PortRef.{PortRef}
use Rattle.smp_wire.specs.Deliveries.{AreDeliveries, DeliveryState, adapter_at}
use Rattle.port_model.specs.AdapterState.{AdapterState}
use Rattle.port_model.specs.Packets.{packet_from, refusal_of as port_refusal}
use Rattle.smp_wire.specs.FabricState.{FabricState}
use Rattle.subnet_model.specs.Delivery.{port_with_guid, reaches_joined, refusal_of}
use Rattle.subnet_model.specs.Report.{packet_of, received_by}
use Rattle.subnet_model.specs.declared.command.SendCommand.{SendCommand}
use Rattle.subnet_model.specs.declared.event.PortEvent.{PortEvent}
use Rattle.subnet_model.specs.declared.event.Outcome.TheVariants.{Received}
use Rattle.subnet_model.specs.declared.subnet_port.SubnetPort.{SubnetPort}
use Rattle.subnet_fabric.specs.OfFabric.{IsFabricOf}

-- the port of a channel adapter that a command names
pub record IsSender (ports : List SubnetPort) (command : SendCommand) (sender : SubnetPort) : Type 0 where
  pub named : port_with_guid ports command.port_guid ≡ Some sender
  pub adapter : is_switch_type sender.node_type ≡ false

-- the port of that GUID refuses what the subnet refuses, for the same cause, and stamps the same packet
abbrev pub PortsStampAsReported : Type 0
PortsStampAsReported =
    (ports : List SubnetPort) (receives : ℕ → ℕ → Bool) (fabric : FabricState) (command : SendCommand) (sender : SubnetPort)
    (at : PortRef) (one : AdapterState)
    → IsFabricOf ports receives fabric → IsSender ports command sender → adapter_at fabric.nodes at ≡ Some one → one.port_guid ≡ command.port_guid
    → (port_refusal one command.dlid command.p_key command.destination_qp ≡ refusal_of sender command)
    × (packet_from one command.dlid command.p_key command.destination_qp command.payload ≡ packet_of sender command)

-- a delivery, as it is reported
abbrev pub reported : DeliveryState → PortEvent
reported delivered = record { port_guid = delivered.port; what = Received delivered.packet }

-- what the fabric delivers of a packet is what the subnet reports, if these ports receive what is sent to groups
abbrev pub DeliveriesAreWhatIsReported : Type 0
DeliveriesAreWhatIsReported =
    (ports : List SubnetPort) (receives : ℕ → ℕ → Bool) (fabric : FabricState) (command : SendCommand) (sender : SubnetPort)
    (deliveries : List DeliveryState)
    → IsFabricOf ports receives fabric → IsSender ports command sender → refusal_of sender command ≡ None
    → AreDeliveries fabric command.port_guid (packet_of sender command) deliveries
    → map reported deliveries ≡ received_by (reaches_joined (receives command.dlid) command) ports sender command
