-- All steps of a packet.
use Rattle.std.specs.Prelude.{if◌then◌else◌, List}
use Rattle.data_packet.specs.declared.packet.Packet.{Packet}
use Rattle.fabric_parts.specs.Lid.{is_multicast}
use Rattle.fabric_parts.specs.declared.cable.PortRef.{PortRef}
use Rattle.packet_trace.specs.Spread.{spread_of}
use Rattle.packet_trace.specs.Trace.{way_of}
use Rattle.packet_trace.specs.declared.turn.Step.{Step}
use Rattle.smp_wire.specs.FabricState.{FabricState}

-- of one that comes in first at that port: one to a multicast LID goes all its ways, any other goes one
abbrev pub steps_of : FabricState → Packet → PortRef → List Step
steps_of fabric packet first = if is_multicast packet.dlid then (spread_of fabric packet first).steps else way_of fabric packet first
