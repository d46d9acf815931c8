use Rattle.std.proofs.Common.{ℕ, List, Bool, ◌≡◌, ◌∙◌, ◌+◌, ◌++◌, ◌||◌, ◌==◌, ◌<◌, ◌≤◌, ap, drop, length, map, subst, sym, take}
use Rattle.std.specs.List.{list_any}
use Rattle.std.proofs.Math.Seq.{take-append_seam}
use Rattle.fabric_parts.specs.declared.cable.PortRef.{PortRef}
use Rattle.topo_file.specs.declared.node.Node.{Node}
use Rattle.topo_file.specs.Rounds.{is_marked}
use Rattle.audit_plan.specs.Plan.{PlanState}
use Rattle.audit_multicast.specs.Copies.{again, hop, node_behind, second_copy}
use Rattle.audit_multicast.proofs.MeetLemmas.{IsFollowed, followed_again, followed_all, followed_first, followed_on, followed_out, none_there}
use Rattle.audit_multicast.proofs.copies.second_copy.Goals as goal

pub loop-init : goal.loop-init
loop-init c =
    followed_first c.args.net.now c.args.masks.now c.args.place c.in_ok-met.met.items c.in_ok-front.front.items
    (c.in_ok-met.ensures.long ∙ ap (λ (nodes : List Node). length nodes) (c.nodes.ensures ∙ ap (λ (of : PlanState). of.nodes) c.plan.ensures)) c.in_ok-met.ensures.marked c.in_ok-front.ensures

pub returns-then-is_empty : goal.returns-then-is_empty
unfolding second_copy
returns-then-is_empty c =
    followed_out c.args.net.now c.args.masks.now c.args.place c.loop.counter c.loop.met.items c.loop.front.items
    (none_there c.loop.front.items (ap (λ (some : List PortRef). length some == 0) (sym c.as_slice.ensures.value) ∙ sym c.is_empty.ensures ∙ c.if-is_empty.true)) c.loop.invariant

pub returns-in-Some : goal.returns-in-Some
unfolding second_copy
returns-in-Some c =
    let net = c.args.net.now in
    let less = subst (λ (nodes : List Node). c.loop.counter < length nodes) (c.nodes-end.ensures ∙ ap (λ (of : PlanState). of.nodes) c.plan-2.ensures) c.loop-test.true in
    followed_again net c.args.masks.now c.args.place c.loop.counter c.in-Some.again c.loop.met.items c.loop.front.items less c.loop.invariant
    (sym (sym c.in-Some.is ∙ c.meet_all.ensures.first
    ∙ ap (λ (met : List Bool). again (is_marked met) (map (node_behind net) c.deref.result.now)) c.deref_mut.ensures.value
    ∙ ap (λ (front : List PortRef). again (is_marked c.loop.met.items) (map (node_behind net) front)) c.deref.ensures.value))

pub loop-preserved : goal.loop-preserved
loop-preserved c =
    let net = c.args.net.now in
    let masks = c.args.masks.now in
    let place = c.args.place in
    let met = c.loop.met.items in
    let front = c.loop.front.items in
    let none = c.in_default.is in
    let new = c.meet_all.new.met in
    let rest = drop (length new) met in
    let same : c.loop.met.len ≡ length new = sym c.deref_mut.ensures.len ∙ sym c.meet_all.ensures.long in
    let is : take c.loop.met.len (new ++ rest) ≡ new = ap (λ (n : ℕ). take n (new ++ rest)) same ∙ take-append_seam new rest in
    let less = subst (λ (nodes : List Node). c.loop.counter < length nodes) (c.nodes-end.ensures ∙ ap (λ (of : PlanState). of.nodes) c.plan-2.ensures) c.loop-test.true in
    let ends = ap (λ (some : List PortRef). map (node_behind net) some) c.deref.ensures.value in
    let was = c.deref_mut.ensures.value in
    subst (λ (marks : List Bool). IsFollowed net masks place (c.loop.counter + 1) marks c.in_ok-front-2.front.items) (sym is)
    (followed_on net masks place c.loop.counter met new front c.in_ok-front-2.front.items less c.loop.invariant
    (sym (ap (λ (some : List Bool). again (is_marked some) (map (node_behind net) c.deref.result.now)) was
    ∙ ap (λ (some : List ℕ). again (is_marked met) some) ends) ∙ sym c.meet_all.ensures.first ∙ none)
    (c.meet_all.ensures.long ∙ ap (λ (marks : List Bool). length marks) was)
    (λ k. c.meet_all.ensures.marked none k
    ∙ ap (λ (marks : List Bool). is_marked marks k || list_any (λ one. one == k) (map (node_behind net) c.deref.result.now)) was
    ∙ ap (λ (some : List ℕ). is_marked met k || list_any (λ one. one == k) some) ends)
    (c.in_ok-front-2.ensures ∙ ap (hop net masks) c.deref-in-loop.ensures.value))

pub returns : goal.returns
unfolding second_copy
returns c =
    followed_all c.args.net.now c.args.masks.now c.args.place c.loop.counter c.loop.met.items c.loop.front.items
    (subst (λ (nodes : List Node). length nodes ≤ c.loop.counter) (c.nodes-end.ensures ∙ ap (λ (of : PlanState). of.nodes) c.plan-2.ensures) c.loop-test.false) c.loop.invariant
