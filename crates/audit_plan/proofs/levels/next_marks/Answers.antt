use Rattle.std.proofs.Common.{sym}
use Rattle.audit_plan.specs.Levels.{is_next}
use Rattle.audit_plan.proofs.RangeLemmas.{map_range_more}
use Rattle.audit_plan.proofs.levels.next_marks.Goals as goal

pub loop-place-preserved : goal.loop-place-preserved
loop-place-preserved c = rw (c.in_ok-push.ensures.items, c.is_next.ensures, c.loop-place.invariant) (sym (map_range_more (is_next c.args.links.now c.args.marks.now) c.loop-place.place))
