use Rattle.std.proofs.Common.{ap, ◌++◌, ◌∷◌, [], ◌∙◌}
use Rattle.audit_plan.specs.declared.ends.EndGuid.{EndGuid}
use Rattle.audit_plan.specs.Plan.{adapter_end}
use Rattle.audit_plan.proofs.RangeLemmas.{flat_onto}
use Rattle.audit_plan.proofs.plan.push_adapter_ends.Goals as goal

pub loop-before-preserved : goal.loop-before-preserved
loop-before-preserved c =
    flat_onto (adapter_end c.args.place c.args.node.now.guid) c.args.ends.now.items c.loop-before.ends.items c.push.new.self.items c.loop-before.before
    c.loop-before.invariant
    (c.in_ok-push.ensures.items ∙ ap (λ (end : EndGuid). c.loop-before.ends.items ++ end ∷ []) c.end_with.ensures)
