use Rattle.std.proofs.Common.{◌≡◌}
use Rattle.audit_multicast.specs.Spreading.{spread_marks}
use Rattle.audit_multicast.proofs.cuts.spread.Given as goal

abbrev pub invariant-loop-hop : goal.invariant-loop-hop
invariant-loop-hop l = l.marks.items ≡ spread_marks l.net l.all l.place l._hop
