use Rattle.std.proofs.Common.{sym}
use Rattle.audit_plan.specs.FarEnds.{ends_at}
use Rattle.audit_plan.proofs.RangeLemmas.{map_range_more}
use Rattle.audit_plan.proofs.links.FarEnds.all_ends.Goals as goal

pub loop-place-preserved : goal.loop-place-preserved
loop-place-preserved c =
    rw (c.in_ok-push.ensures.items, c.of.ensures, c.in_ok-ends.ensures, c.loop-place.invariant) (sym (map_range_more (ends_at c.args.self.now) c.loop-place.place))
