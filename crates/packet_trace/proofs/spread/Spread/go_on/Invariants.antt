use Rattle.std.proofs.Common.{◌≡◌}
use Rattle.packet_trace.specs.Spread.{outs_below}
use Rattle.packet_trace.proofs.spread.Spread.go_on.Given as goal

abbrev pub invariant-loop-number : goal.invariant-loop-number
invariant-loop-number g l = l.self ≡ outs_below l.number l.fabric.cables l.switch l.packet l.here l.fn.self
