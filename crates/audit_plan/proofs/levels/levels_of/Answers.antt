use Rattle.std.proofs.Common.{◌∙◌, ap, List, length}
use Rattle.topo_file.specs.declared.node.Node.{Node}
use Rattle.audit_plan.specs.Plan.{PlanState}
use Rattle.audit_plan.proofs.LevelLemmas.{levels_by_rounds}
use Rattle.audit_plan.proofs.levels.levels_of.Goals as goal

pub returns : goal.returns
returns c =
    levels_by_rounds c.args.links.now c.deref.result.now c.in_ok-levels.levels.items _ (c.deref.ensures.value ∙ c.in_ok-rounds.ensures)
    (ap (λ (nodes : List Node). length nodes) c.nodes.ensures ∙ ap (λ (of : PlanState). length of.nodes) c.plan.ensures) c.in_ok-levels.ensures
