-- A wrong rule for traces, and the law that it breaks.
use Rattle.std.specs.Prelude.{if◌then◌else◌, List, [], ◌∷◌}
use Rattle.data_packet.specs.declared.packet.Packet.{Packet}
use Rattle.fabric_parts.specs.Lid.{is_multicast}
use Rattle.fabric_parts.specs.declared.cable.PortRef.{PortRef}
use Rattle.packet_trace.specs.Laws.{ShowAllWays}
use Rattle.packet_trace.specs.Steps.{steps_of}
use Rattle.packet_trace.specs.declared.turn.Step.{Step}
use Rattle.smp_wire.specs.FabricState.{FabricState}

-- of a packet to one port the last step alone is reported
abbrev pub last_alone : List Step → List Step
last_alone [] = []
last_alone (step ∷ []) = step ∷ []
last_alone (step ∷ next ∷ later) = last_alone (next ∷ later)

abbrev pub ends_alone : FabricState → Packet → PortRef → List Step
ends_alone fabric packet first =
    if is_multicast packet.dlid then steps_of fabric packet first else last_alone (steps_of fabric packet first)

abbrev pub EndsAreNotAll : Type 0
EndsAreNotAll = ShowAllWays ends_alone → ⊥
