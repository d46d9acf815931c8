use Rattle.std.proofs.Common.{[]}
use Rattle.audit_plan.specs.Plan.{switch_end_at}
use Rattle.audit_plan.proofs.RangeLemmas.{flat_onto}
use Rattle.audit_plan.proofs.discovered.switch_ends.Goals as goal

pub loop-place-preserved : goal.loop-place-preserved
loop-place-preserved c =
    flat_onto (switch_end_at c.args.nodes.now) [] c.loop-place.ends.items c.push_switch_end_at.new.ends.items c.loop-place.place
    c.loop-place.invariant c.in_ok-push_switch_end_at.ensures
