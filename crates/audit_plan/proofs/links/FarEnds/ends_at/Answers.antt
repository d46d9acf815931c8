use Rattle.std.proofs.Common.{sym, ◌+◌}
use Rattle.fabric_parts.specs.Cable.{far_end, port}
use Rattle.audit_plan.proofs.RangeLemmas.{map_range_more}
use Rattle.audit_plan.proofs.links.FarEnds.ends_at.Goals as goal

pub loop-number-preserved : goal.loop-number-preserved
loop-number-preserved c =
    rw (c.in_ok-push.ensures.items, c.end_behind.ensures, c.loop-number.invariant)
    (sym (map_range_more (λ number. far_end c.args.self.now.cables (port c.args.place (number + 1))) c.loop-number.number))
