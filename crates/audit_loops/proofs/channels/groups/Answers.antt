use Rattle.std.proofs.Common.{sym}
use Rattle.audit_loops.specs.Waits.{group_at}
use Rattle.audit_plan.proofs.RangeLemmas.{map_range_more}
use Rattle.audit_loops.proofs.channels.groups.Goals as goal

pub loop-place-preserved : goal.loop-place-preserved
loop-place-preserved c =
    rw (c.in_ok-push.ensures.items, c.of.ensures, c.in_ok-group.ensures, c.loop-place.invariant) (sym (map_range_more (group_at c.args.net.now c.args.all.now) c.loop-place.place))
