-- How a packet to a multicast LID spreads over a fabric (IBA volume 1, chapter 14): where it comes in, and whom it reaches.
use Rattle.std.specs.Prelude.{◌≡◌, ◌↔◌, true, List, ◌++◌, Option, Some, None, if◌then◌else◌}
use Rattle.std.specs.List.{IsDistinct, list_any}
use Rattle.std.specs.Option.{option_and_then}
use Rattle.data_packet.specs.declared.packet.Packet.{Packet}
use Rattle.fabric_parts.specs.Cable.{is_same_port}
use Rattle.fabric_parts.specs.declared.cable.Cable.{Cable}
use Rattle.fabric_parts.specs.declared.cable.PortRef.{PortRef}
use Rattle.port_model.specs.AdapterState.{AdapterState}
use Rattle.port_model.specs.Packets.{accepts_packet}
use Rattle.smp_wire.specs.declared.node.Node.{Node}
use Rattle.smp_wire.specs.Deliveries.{Goes, IsDelivered, Passes, adapter_at, numbers_of}
use Rattle.smp_wire.specs.declared.numbers.Numbers.{Numbers}

-- ---- ports where the packet comes in
abbrev pub has_port : List PortRef → PortRef → Type 0
has_port ports at = list_any (is_same_port at) ports ≡ true

-- these are all ports where a packet that came in first there comes in, some way or other
abbrev pub AreReached : List Node → List Cable → Packet → PortRef → List PortRef → Type 0
AreReached nodes cables packet first ports =
    (at : PortRef) → has_port ports at ↔ ((way : List PortRef) × Goes nodes cables packet first way at)

-- behind the ports that were known stand those that are new of where what came in here comes in next
pub record IsGrown (nodes : List Node) (cables : List Cable) (packet : Packet) (here : PortRef) (old new : List PortRef) : Type 0 where
  pub more : List PortRef
  pub kept : new ≡ old ++ more
  pub sound : (next : PortRef) → has_port more next → Passes nodes cables packet here next
  pub full : (next : PortRef) → Passes nodes cables packet here next → has_port new next
  pub differ : IsDistinct is_same_port old → IsDistinct is_same_port new

-- ---- whom it reaches
-- the numbers of the port of a channel adapter there, if there is one and it accepts the packet
abbrev pub numbers_at : List Node → Packet → PortRef → Option Numbers
numbers_at nodes packet at =
    option_and_then (λ port. if accepts_packet port packet then Some (numbers_of port) else None) (adapter_at nodes at)

-- a port with these numbers gets what leaves by the port `from`
pub record Gets (nodes : List Node) (cables : List Cable) (from : PortRef) (packet : Packet) (receiver : Numbers) : Type 0 where
  pub at : PortRef
  pub port : AdapterState
  pub delivered : IsDelivered nodes cables from packet at port
  pub numbers : receiver ≡ numbers_of port
