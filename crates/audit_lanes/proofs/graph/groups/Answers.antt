use Rattle.std.proofs.Common.{sym}
use Rattle.audit_plan.proofs.RangeLemmas.{map_range_more}
use Rattle.audit_lanes.specs.Keys.{numbered_at}
use Rattle.audit_lanes.proofs.graph.groups.Goals as goal

pub loop-place-preserved : goal.loop-place-preserved
loop-place-preserved c =
    rw (c.in_ok-push.ensures.items, c.of.ensures, c.in_ok-group.ensures, c.loop-place.invariant) (sym (map_range_more (numbered_at c.args.all.now) c.loop-place.place))
