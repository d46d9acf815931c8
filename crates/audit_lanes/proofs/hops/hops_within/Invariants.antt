use Rattle.std.proofs.Common.{◌≡◌, ◌++◌, ◌-◌}
use Rattle.audit_lanes.specs.Hops.{enough_hops, hops_within}
use Rattle.audit_lanes.proofs.hops.hops_within.Given as goal

abbrev pub invariant-loop : goal.invariant-loop
invariant-loop l = l.hops.items ++ hops_within l.net l.tables l.path (enough_hops l.net - l.counter) l.at ≡ hops_within l.net l.tables l.path (enough_hops l.net) l.fn.start
