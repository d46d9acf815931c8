use Rattle.std.proofs.Common.{◌≡◌, ◌∙◌, ◌||◌, ◌<◌, ◌+◌, ℕ, Bool, false, List, ap, subst, sym}
use Rattle.topo_file.specs.Node.{ports_at}
use Rattle.topo_file.specs.declared.node.Node.{Node}
use Rattle.topo_file.specs.Rounds.{is_marked}
use Rattle.audit_plan.specs.Levels.{leads_near}
use Rattle.audit_plan.specs.Plan.{PlanState}
use Rattle.audit_plan.proofs.LevelLemmas.{next_left, some_left}
use Rattle.audit_plan.proofs.levels.some_lead.Goals as goal

pub loop-before-preserved : goal.loop-before-preserved
loop-before-preserved c =
    let plan = c.args.links.now in
    let place = c.args.place in
    let before = c.loop-before.before in
    let ports = ports_at plan.nodes place in
    let test = leads_near plan (is_marked c.args.marks.now) place in
    let less : before < ports =
    subst (λ (n : ℕ). before < n) (c.ports_at-before-end.ensures ∙ ap (λ (nodes : List Node). ports_at nodes place) c.nodes.ensures ∙ ap (λ (of : PlanState). ports_at of.nodes place) c.plan.ensures) c.loop-before-test.true in
    let off : test before ≡ false = sym c.leads_near.ensures ∙ c.if-leads_near.false in
    sym (next_left test before ports less ∙ ap (λ (b : Bool). b || some_left test (before + 1) ports) off) ∙ c.loop-before.invariant
