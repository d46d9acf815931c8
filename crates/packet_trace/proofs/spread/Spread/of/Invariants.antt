use Rattle.std.proofs.Common.{◌≡◌, ◌+◌, ◌-◌, ◌*◌, length}
use Rattle.packet_trace.specs.Spread.{spread_from, spread_of}
use Rattle.packet_trace.proofs.spread.Spread.of.Given as goal

abbrev pub invariant-loop-place : goal.invariant-loop-place
invariant-loop-place l =
    spread_of l.fabric l.packet l.fn.first ≡ spread_from (2 * length l.fabric.cables + 1 - l.place) l.fabric l.packet l.place l.spread
