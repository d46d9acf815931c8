use Rattle.std.proofs.Common.{◌≡◌}
use Rattle.packet_trace.specs.Spread.{has_out_below}
use Rattle.packet_trace.proofs.spread.has_out.Given as goal

abbrev pub invariant-loop-number : goal.invariant-loop-number
invariant-loop-number g l = l.found ≡ has_out_below l.number l.switch l.in_port l.packet
