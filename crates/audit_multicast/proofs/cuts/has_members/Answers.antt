use Rattle.std.proofs.Common.{◌≡◌, ◌∙◌, ◌||◌, ◌<◌, ◌+◌, ℕ, Bool, false, List, ap, subst, sym}
use Rattle.fabric_parts.specs.Cable.{port}
use Rattle.topo_file.specs.Node.{ports_at}
use Rattle.topo_file.specs.declared.node.Node.{Node}
use Rattle.audit_plan.proofs.AttachedLemmas.{next_left, some_left}
use Rattle.audit_plan.specs.Plan.{PlanState}
use Rattle.audit_multicast.specs.Cuts.{is_member}
use Rattle.audit_multicast.proofs.cuts.has_members.Goals as goal

pub loop-number-preserved : goal.loop-number-preserved
loop-number-preserved c =
    let net = c.args.net.now in
    let place = c.args.place in
    let number = c.loop-number.number in
    let ports = ports_at net.plan.nodes place in
    let less : number < ports =
    subst (λ (n : ℕ). number < n) (c.ports_at-number-end.ensures ∙ ap (λ (nodes : List Node). ports_at nodes place) (c.nodes.ensures ∙ ap (λ (of : PlanState). of.nodes) c.plan.ensures)) c.loop-number-test.true in
    let off : is_member net c.args.masks.now (port place (number + 1)) ≡ false = sym c.is_member.ensures ∙ c.if-is_member.false in
    ap (λ (b : Bool). b || some_left (is_member net c.args.masks.now) place (number + 1) ports) (sym off)
    ∙ sym (next_left (is_member net c.args.masks.now) place number ports less) ∙ c.loop-number.invariant
