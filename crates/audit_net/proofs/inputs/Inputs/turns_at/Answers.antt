use Rattle.std.proofs.Common.{sym, ◌+◌}
use Rattle.audit_net.specs.Following.{turn_by}
use Rattle.audit_net.specs.declared.entry.Entry.TheVariants.{Out}
use Rattle.audit_plan.proofs.RangeLemmas.{map_range_more}
use Rattle.audit_net.proofs.inputs.Inputs.turns_at.Goals as goal

pub loop-number-preserved : goal.loop-number-preserved
loop-number-preserved c =
    rw (c.in_ok-push.ensures.items, c.turn_out.ensures, c.loop-number.invariant)
    (sym (map_range_more (λ number. turn_by c.args.self.now c.args.place (Out (number + 1))) c.loop-number.number))
