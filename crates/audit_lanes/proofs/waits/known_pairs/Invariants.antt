use Rattle.std.proofs.Common.{take}
use Rattle.audit_lanes.specs.Keys.{KnowsPairs}
use Rattle.audit_lanes.proofs.waits.known_pairs.Given as goal

abbrev pub invariant-loop-trace : goal.invariant-loop-trace
invariant-loop-trace l = KnowsPairs l.known (take l.trace-index l.traces)
