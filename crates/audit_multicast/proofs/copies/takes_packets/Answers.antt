use Rattle.std.proofs.Common.{◌≡◌, ◌∙◌, ◌||◌, ◌<◌, ◌+◌, ℕ, Bool, false, List, ap, subst, sym}
use Rattle.fabric_parts.specs.Cable.{port}
use Rattle.topo_file.specs.Node.{ports_at}
use Rattle.topo_file.specs.declared.node.Node.{Node}
use Rattle.audit_plan.proofs.AttachedLemmas.{next_left, some_left}
use Rattle.audit_plan.specs.Plan.{PlanState}
use Rattle.audit_multicast.specs.Copies.{leads_to_end}
use Rattle.audit_multicast.proofs.copies.takes_packets.Goals as goal

pub loop-number-preserved : goal.loop-number-preserved
loop-number-preserved c =
    let net = c.args.net.now in
    let place = c.args.place in
    let number = c.loop-number.number in
    let ports = ports_at net.plan.nodes place in
    let less : number < ports =
    subst (λ (n : ℕ). number < n) (c.ports_at-number-end.ensures ∙ ap (λ (nodes : List Node). ports_at nodes place) (c.nodes.ensures ∙ ap (λ (of : PlanState). of.nodes) c.plan.ensures)) c.loop-number-test.true in
    let off : leads_to_end net (port place (number + 1)) ≡ false = sym c.leads_to_end.ensures ∙ c.if-leads_to_end.false in
    ap (λ (b : Bool). b || some_left (leads_to_end net) place (number + 1) ports) (sym off)
    ∙ sym (next_left (leads_to_end net) place number ports less) ∙ c.loop-number.invariant
