-- What holds of all traces: the statements of the laws of `src/laws.rt`.
use Rattle.std.specs.Prelude.{ℕ, ◌≡◌, ◌↔◌, false, List, [], ◌∷◌, ◌++◌, Some}
use Rattle.std.specs.List.{Contains}
use Rattle.data_packet.specs.declared.packet.Packet.{Packet}
use Rattle.fabric_parts.specs.Cable.{far_end}
use Rattle.fabric_parts.specs.declared.cable.PortRef.{PortRef}
use Rattle.fabric_parts.specs.Lid.{is_multicast}
use Rattle.packet_trace.specs.Steps.{steps_of}
use Rattle.packet_trace.specs.Trace.{step}
use Rattle.packet_trace.specs.declared.turn.Step.{Step}
use Rattle.packet_trace.specs.declared.turn.Turn.{Turn}
use Rattle.packet_trace.specs.declared.turn.Turn.TheVariants.{Accepts, GoesOut}
use Rattle.smp_wire.specs.Deliveries.{Goes, IsDelivered, adapter_at}
use Rattle.port_model.specs.AdapterState.{AdapterState}
use Rattle.smp_wire.specs.FabricState.{FabricState}

-- a packet that leaves by the port `from`, whose cable leads to `first`, is delivered at a port if and only if that accepts it
-- in the trace
abbrev pub TracesReportDeliveries : Type 0
TracesReportDeliveries =
    (fabric : FabricState) (packet : Packet) (from first at : PortRef) (port : AdapterState)
    → far_end fabric.cables from ≡ Some first → adapter_at fabric.nodes at ≡ Some port
    → IsDelivered fabric.nodes fabric.cables from packet at port ↔ Contains (steps_of fabric packet first) (step at Accepts)

-- only a port of a channel adapter accepts a packet in a trace
abbrev pub AdaptersAccept : Type 0
AdaptersAccept =
    (fabric : FabricState) (packet : Packet) (first at : PortRef) → Contains (steps_of fabric packet first) (step at Accepts)
    → (port : AdapterState) × (adapter_at fabric.nodes at ≡ Some port)

-- there is a last step, and at its port the packet does not go out: so that step says why the way ends
pub record HasEnd (trace : List Step) : Type 0 where
  pub before : List Step
  pub last : Step
  pub whole : trace ≡ before ++ last ∷ []
  pub stays : (out : ℕ) → ¬ (last.turn ≡ GoesOut out)

-- of what leaves by the port `from`, whose cable leads to `first`, however the tables lead it
abbrev pub TracesHaveAnEnd : Type 0
TracesHaveAnEnd =
    (fabric : FabricState) (packet : Packet) (from first : PortRef)
    → is_multicast packet.dlid ≡ false → far_end fabric.cables from ≡ Some first → HasEnd (steps_of fabric packet first)

-- traces reported by this rule have a step at a port if and only if the packet, which comes in first at that port, comes in there,
-- some way or other
abbrev pub ShowAllWays : (FabricState → Packet → PortRef → List Step) → Type 0
ShowAllWays steps =
    (fabric : FabricState) (packet : Packet) (first at : PortRef)
    → ((turn : Turn) × Contains (steps fabric packet first) (step at turn))
    ↔ ((way : List PortRef) × Goes fabric.nodes fabric.cables packet first way at)

abbrev pub TracesShowAllWays : Type 0
TracesShowAllWays = ShowAllWays steps_of
