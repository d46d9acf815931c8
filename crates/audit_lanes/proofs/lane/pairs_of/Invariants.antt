use Rattle.std.proofs.Common.{◌≡◌, ◌++◌, drop, None}
use Rattle.audit_lanes.specs.Lanes.{pairs_after}
use Rattle.audit_lanes.proofs.lane.pairs_of.Given as goal

abbrev pub invariant-loop-hop : goal.invariant-loop-hop
invariant-loop-hop l = l.pairs.items ++ pairs_after l.before (drop l.hop-index l.hops) ≡ pairs_after None l.hops
