use Rattle.std.proofs.Common.{sym}
use Rattle.audit_plan.specs.Attached.{carries_host}
use Rattle.audit_plan.proofs.RangeLemmas.{map_range_more}
use Rattle.audit_plan.proofs.levels.first_marks.Goals as goal

pub loop-place-preserved : goal.loop-place-preserved
loop-place-preserved c = rw (c.in_ok-push.ensures.items, c.carries_host.ensures, c.loop-place.invariant) (sym (map_range_more (carries_host c.args.links.now) c.loop-place.place))
