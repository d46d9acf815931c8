use Rattle.std.proofs.Common.{take}
use Rattle.audit_lanes.specs.Keys.{KnowsDropped, KnowsDroppedSls, KnowsLacking}
use Rattle.audit_lanes.proofs.troubles.noted_in.Given as goal

abbrev pub invariant-loop-trace : goal.invariant-loop-trace
invariant-loop-trace l =
    KnowsLacking l.noted.lacking (take l.trace-index l.traces)
    × (KnowsDropped l.noted.dropped (take l.trace-index l.traces) × KnowsDroppedSls l.noted.dropped_sls (take l.trace-index l.traces))
