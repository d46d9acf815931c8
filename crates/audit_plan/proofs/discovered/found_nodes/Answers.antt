use Rattle.std.proofs.Common.{◌∙◌, ◌++◌, [], ◌∷◌, List, ap, sym}
use Rattle.std.proofs.lemmas.List.{map_more}
use Rattle.audit_plan.specs.Plan.{found_node}
use Rattle.topo_file.specs.declared.node.Node.{Node}
use Rattle.audit_plan.proofs.discovered.found_nodes.Goals as goal

pub loop-node-preserved : goal.loop-node-preserved
loop-node-preserved c =
    let nodes = c.args.nodes.now in
    let i = c.loop-node.node-index in
    c.in_ok-push.ensures.items ∙ ap (λ (found : List Node). found ++ c.in_ok-found_node.field-0 ∷ []) c.loop-node.invariant
    ∙ rw (c.in_ok-found_node.ensures nodes c.in_ok-names.ensures, c.node-item.is) (sym (map_more (found_node nodes) nodes i c.node-item.result c.loop-node-test.true))
