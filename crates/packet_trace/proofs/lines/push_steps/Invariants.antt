use Rattle.std.proofs.Common.{◌≡◌, ◌++◌, take}
use Rattle.std.specs.List.{flat_map}
use Rattle.packet_trace.specs.Lines.{step_line}
use Rattle.packet_trace.proofs.lines.push_steps.Given as goal

abbrev pub invariant-loop-step : goal.invariant-loop-step
invariant-loop-step l = l.text.items ≡ l.fn.text.items ++ flat_map (step_line l.fn.topology.nodes) (take l.step-index l.fn.steps)
