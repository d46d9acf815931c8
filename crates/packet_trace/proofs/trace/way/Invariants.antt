use Rattle.std.proofs.Common.{◌≡◌, ◌+◌, ◌-◌, ◌*◌, ◌++◌, length}
use Rattle.packet_trace.specs.Trace.{steps_from, way_of}
use Rattle.packet_trace.proofs.trace.way.Given as goal

abbrev pub invariant-loop-hop : goal.invariant-loop-hop
invariant-loop-hop l =
    way_of l.fabric l.packet l.fn.first
    ≡ l.steps.items ++ steps_from l.fabric l.packet (2 * length l.fabric.cables + 1 - l._hop) l.steps.items l.here
