-- The way of a unicast packet: a switch sends it out of one port at most.
use Rattle.std.specs.Prelude.{ℕ, ◌≡◌, List, slice_get, Option, None}
use Rattle.std.specs.Option.{option_and_then}
use Rattle.data_packet.specs.declared.packet.Packet.{Packet}
use Rattle.fabric_parts.specs.declared.cable.Cable.{Cable}
use Rattle.fabric_parts.specs.declared.cable.PortRef.{PortRef}
use Rattle.fabric_parts.specs.Cable.{far_end}
use Rattle.switch_model.specs.Forwarding.{out_port}
use Rattle.smp_wire.specs.Deliveries.{Goes}
use Rattle.smp_wire.specs.declared.node.Node.{Node}
use Rattle.smp_wire.specs.declared.node.Node.TheVariants.{Switch, Adapter}

abbrev pub node_out_port : Node → ℕ → Packet → Option ℕ
node_out_port (Switch held) in_port packet = out_port held in_port packet
node_out_port (Adapter ports) in_port packet = None

abbrev pub out_port_at : List Node → PortRef → Packet → Option ℕ
out_port_at nodes here packet = option_and_then (λ node. node_out_port node here.port packet) (slice_get nodes here.node)

-- where a packet that came in here comes in next; nowhere, if no port sends it on or none has a cable there
abbrev pub next_port : List Node → List Cable → Packet → PortRef → Option PortRef
next_port nodes cables packet here =
    option_and_then (λ out. far_end cables (record { node = here.node; port = out })) (out_port_at nodes here packet)

-- the path of a packet that came in at the first of these ports ends at the last: nothing sends it on from there
pub record IsEnd (nodes : List Node) (cables : List Cable) (packet : Packet) (first last : PortRef) : Type 0 where
  pub way : List PortRef
  pub goes : Goes nodes cables packet first way last
  pub ends : next_port nodes cables packet last ≡ None
