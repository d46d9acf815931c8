-- By which ports a packet leaves switches in its trace.
use Rattle.std.specs.Prelude.{ℕ, ◌==◌, ◌&&◌, Bool, false, List}
use Rattle.std.specs.List.{list_any}
use Rattle.fabric_parts.specs.declared.cable.PortRef.{PortRef}
use Rattle.packet_trace.specs.declared.turn.Step.{Step}
use Rattle.packet_trace.specs.declared.turn.Turn.{Turn}
use Rattle.packet_trace.specs.declared.turn.Turn.TheVariants.{GoesOut}

abbrev pub goes_out_by : ℕ → Turn → Bool
goes_out_by number (GoesOut out) = out == number
goes_out_by number _ = false

-- at this step it leaves by this port
abbrev pub leaves_at : PortRef → Step → Bool
leaves_at at step = (step.at.node == at.node) && goes_out_by at.port step.turn

abbrev pub is_left_by : List Step → PortRef → Bool
is_left_by steps at = list_any (leaves_at at) steps
