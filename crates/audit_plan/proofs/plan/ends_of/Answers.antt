use Rattle.std.proofs.Common.{[]}
use Rattle.audit_plan.specs.Plan.{ends_at}
use Rattle.audit_plan.proofs.RangeLemmas.{flat_onto}
use Rattle.audit_plan.proofs.plan.ends_of.Goals as goal

pub loop-place-preserved : goal.loop-place-preserved
loop-place-preserved c =
    flat_onto (ends_at c.args.nodes.now) [] c.loop-place.ends.items c.push_ends_at.new.ends.items c.loop-place.place c.loop-place.invariant c.in_ok-push_ends_at.ensures
