use Rattle.std.proofs.Common.{◌≡◌, ◌==◌, ◌∙◌, subst, sym, true, List}
use Rattle.std.proofs.lemmas.Bool.{false≢true}
use Rattle.std.proofs.lemmas.Result.{IfOk-weaker}
use Rattle.std.specs.List.{list_all, list_any}
use Rattle.subnet_fabric.proofs.PlanningLemmas.{guids_stay, is_not_whole, is_plan, it_is_planned_in, whole_is_laid_out}
use Rattle.subnet_fabric.specs.BringUp.{root_guids}
use Rattle.subnet_fabric.specs.Planning.{RoutesGive, planned_in}
use Rattle.sweep.specs.Graph.{GraphState}
use Rattle.sweep.specs.OfFabric.{IsLayoutOf}
use Rattle.updn_routes.specs.Subnet.{guids_of}
use Rattle.subnet_fabric.proofs.planning.plan.Goals as goal

pub changed-requires : goal.changed-requires
changed-requires c = rw (c.port_in-first.ensures, c.port_in-second.ensures, c.graph-graph.ensures) c.requires.may

pub returns-then-not-branch-clause-all : goal.returns-then-not-branch-clause-all
returns-then-not-branch-clause-all c fabric good layout =
    let same : c.in_ok-planned.planned ≡ planned_in c.args.topology.now c.args.cable c.args.up c.args.routes.now.graph =
    it_is_planned_in c.args.topology.now c.args.cable c.args.up _ _ c.args.routes.now.graph _ _ c.graph-graph.ensures c.port_in-first.ensures
    c.port_in-second.ensures c.in_ok-planned.ensures in
    is_not_whole fabric c.in_ok-planned.planned (root_guids c.args.topology.now) good (subst (λ (graph : GraphState). IsLayoutOf graph fabric) (sym same) layout)
    (λ whole. false≢true (sym c.if-not-branch.true ∙ c.in_ok-is_whole.ensures.1 whole))

pub routed-requires-clause-joined : goal.routed-requires-clause-joined
routed-requires-clause-joined c = (c.in_ok-is_whole.ensures.0 c.if-not-branch.false).joined

pub routed-requires-clause-named : goal.routed-requires-clause-named
routed-requires-clause-named c =
    let same : c.in_ok-planned.planned ≡ planned_in c.args.topology.now c.args.cable c.args.up c.args.routes.now.graph =
    it_is_planned_in c.args.topology.now c.args.cable c.args.up _ _ c.args.routes.now.graph _ _ c.graph-graph.ensures c.port_in-first.ensures
    c.port_in-second.ensures c.in_ok-planned.ensures in
    subst (λ (guids : List _). list_all (λ root. list_any (λ guid. guid == root) guids) c.deref.result.now ≡ true)
    (sym (guids_stay c.args.up _ _ c.args.routes.now.graph) ∙ (λ i. guids_of (sym same i)))
    (subst (λ (roots : List _). list_all (λ root. list_any (λ guid. guid == root) (guids_of c.args.routes.now.graph)) roots ≡ true)
    (sym (c.deref.ensures.value ∙ c.in_ok-roots.ensures)) c.requires.named)

pub returns-clause-all : goal.returns-clause-all
returns-clause-all c fabric good layout =
    let same : c.in_ok-planned.planned ≡ planned_in c.args.topology.now c.args.cable c.args.up c.args.routes.now.graph =
    it_is_planned_in c.args.topology.now c.args.cable c.args.up _ _ c.args.routes.now.graph _ _ c.graph-graph.ensures c.port_in-first.ensures
    c.port_in-second.ensures c.in_ok-planned.ensures in
    let here = subst (λ (graph : GraphState). IsLayoutOf graph fabric) (sym same) layout in
    let whole = c.in_ok-is_whole.ensures.0 c.if-not-branch.false in
    let roots = root_guids c.args.topology.now in
    IfOk-weaker c.routed.result _ _
    (λ plan give. is_plan fabric c.in_ok-planned.planned roots good here whole plan
    (subst (λ (roots : List _). RoutesGive fabric roots plan) (c.deref.ensures.value ∙ c.in_ok-roots.ensures) give))
    (c.routed.ensures.all fabric good (whole_is_laid_out fabric c.in_ok-planned.planned roots good here c.known_graph-2.ensures whole))

pub returns-clause-ruled : goal.returns-clause-ruled
returns-clause-ruled c = rw (c.rule.ensures, c.between.ensures) at c.routed.ensures.ruled
