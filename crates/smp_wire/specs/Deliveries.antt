-- Whom a data packet reaches, by what the switches and channel adapters of a fabric hold (IBA volume 1, chapter
-- 14). A packet on its way is where it came in, at a port of a node. By which ports it goes on is asked port by port,
-- so it may be none, one or several, from whatever table a switch reads them.
use Rattle.std.specs.Prelude.{ℕ, ◌≡◌, ◌↔◌, Bool, true, false, List, [], ◌∷◌, map, slice_get, Option, Some, option_map}
use Rattle.std.specs.List.{Contains}
use Rattle.std.specs.List.Sorted.{IsStrictlySortedBy}
use Rattle.std.specs.Option.{option_and_then, option_map_or}
use Rattle.std.specs.Ordering.{nat_cmp, then_cmp, on}
use Rattle.std.specs.declared.cmp.Ordering.{Ordering}
use Rattle.data_packet.specs.declared.packet.Packet.{Packet}
use Rattle.fabric_parts.specs.declared.cable.Cable.{Cable}
use Rattle.fabric_parts.specs.declared.cable.PortRef.{PortRef}
use Rattle.fabric_parts.specs.Cable.{far_end}
use Rattle.port_model.specs.AdapterState.{AdapterState}
use Rattle.port_model.specs.Packets.{accepts_packet}
use Rattle.switch_model.specs.Sending.{sends_out}
use Rattle.smp_wire.specs.declared.node.Node.{Node}
use Rattle.smp_wire.specs.declared.node.Node.TheVariants.{Switch, Adapter}
use Rattle.smp_wire.specs.FabricState.{FabricState, adapter_port}
use Rattle.smp_wire.specs.declared.numbers.Numbers.{Numbers}

-- ---- the ports of channel adapters
abbrev pub adapter_ports : Node → List AdapterState
adapter_ports (Switch held) = []
adapter_ports (Adapter ports) = ports

-- the port of a channel adapter there, if there is one
abbrev pub adapter_at : List Node → PortRef → Option AdapterState
adapter_at nodes at = option_and_then (λ node. adapter_port (adapter_ports node) at.port) (slice_get nodes at.node)

-- its GUID
abbrev pub guid_at : List Node → PortRef → Option ℕ
guid_at nodes at = option_map (λ port. port.port_guid) (adapter_at nodes at)

-- some port has that GUID, and no other has it
abbrev pub HasPort : List Node → ℕ → Type 0
HasPort nodes guid = (at : PortRef) × (guid_at nodes at ≡ Some guid)

abbrev pub IsOwn : List Node → ℕ → Type 0
IsOwn nodes guid = (a b : PortRef) → guid_at nodes a ≡ Some guid → guid_at nodes b ≡ Some guid → a ≡ b

-- ---- ways
-- the node sends what came in at that port out of this one; a channel adapter sends nothing on
abbrev pub sends_on : Node → ℕ → Packet → ℕ → Bool
sends_on (Switch held) in_port packet out = sends_out held in_port packet out
sends_on (Adapter ports) in_port packet out = false

abbrev pub sends_at : List Node → PortRef → Packet → ℕ → Bool
sends_at nodes here packet out = option_map_or (λ node. sends_on node here.port packet out) (slice_get nodes here.node) false

-- what came in here comes in there next: the node sends it out of a port, whose cable leads there
pub record Passes (nodes : List Node) (cables : List Cable) (packet : Packet) (here next : PortRef) : Type 0 where
  pub out : ℕ
  pub sends : sends_at nodes here packet out ≡ true
  pub cable : far_end cables (record { node = here.node; port = out }) ≡ Some next

-- what came in here goes by these ports, of which the last is the one named last
abbrev pub Goes : List Node → List Cable → Packet → PortRef → List PortRef → PortRef → Type 0
Goes nodes cables packet here [] last = here ≡ last
Goes nodes cables packet here (next ∷ later) last =
    Passes nodes cables packet here next × Goes nodes cables packet next later last

-- ---- deliveries
-- what leaves by the port `from` comes to the port of a channel adapter there, some way or other, and that accepts it
pub record IsDelivered (nodes : List Node) (cables : List Cable) (from : PortRef) (packet : Packet) (at : PortRef)
    (port : AdapterState) : Type 0 where
  pub first : PortRef
  pub cable : far_end cables from ≡ Some first
  pub way : List PortRef
  pub goes : Goes nodes cables packet first way at
  pub there : adapter_at nodes at ≡ Some port
  pub accepts : accepts_packet port packet ≡ true

-- a port by its numbers
abbrev pub numbers_of : AdapterState → Numbers
numbers_of port = record { lid = port.info.lid; guid = port.port_guid }

-- the port of that GUID sends the packet, and the port of these numbers gets it
pub record Reaches (fabric : FabricState) (sender : ℕ) (packet : Packet) (receiver : Numbers) : Type 0 where
  pub from : PortRef
  pub sends : guid_at fabric.nodes from ≡ Some sender
  pub at : PortRef
  pub port : AdapterState
  pub delivered : IsDelivered fabric.nodes fabric.cables from packet at port
  pub receives : receiver ≡ numbers_of port

-- by LID, then by GUID
abbrev pub in_order : Numbers → Numbers → Ordering
in_order = then_cmp (on (λ one. one.lid) nat_cmp) (on (λ one. one.guid) nat_cmp)

-- the packet at a port, as a fabric delivers it
pub record DeliveryState : Type 0 where
  pub port : ℕ
  pub packet : Packet

-- these are the deliveries of a packet that the port of that GUID sends: one at each port that it reaches, in order
pub record AreDeliveries (fabric : FabricState) (sender : ℕ) (packet : Packet) (deliveries : List DeliveryState) : Type 0 where
  pub receivers : List Numbers
  pub each : (receiver : Numbers) → Contains receivers receiver ↔ Reaches fabric sender packet receiver
  pub order : IsStrictlySortedBy in_order receivers
  pub reported : deliveries ≡ map (λ receiver. record { port = receiver.guid; packet = packet }) receivers
