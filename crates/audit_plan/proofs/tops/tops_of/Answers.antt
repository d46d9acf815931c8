use Rattle.std.proofs.Common.{◌∙◌, ap, List, ℕ}
use Rattle.topo_file.specs.Connectivity.{switches}
use Rattle.topo_file.specs.declared.node.Node.{Node}
use Rattle.audit_plan.specs.Levels.{level_at}
use Rattle.audit_plan.specs.Plan.{PlanState}
use Rattle.audit_plan.specs.Tops.{tops_by}
use Rattle.audit_plan.proofs.TopLemmas.{tops_are}
use Rattle.audit_plan.proofs.tops.tops_of.Goals as goal

pub returns : goal.returns
returns c =
    let places =
    c.deref-2.ensures.value ∙ c.in_ok-places.ensures ∙ ap (λ (nodes : List Node). switches nodes) c.nodes.ensures
    ∙ ap (λ (of : PlanState). switches of.nodes) c.plan.ensures in
    tops_are c.args.links.now c.deref.result.now c.in_ok-tops.tops.items (c.deref.ensures.value ∙ c.in_ok-levels.ensures)
    (c.in_ok-tops.ensures ∙ ap (λ (some : List ℕ). tops_by (level_at c.deref.result.now) some) places)
