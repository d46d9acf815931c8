use Rattle.std.proofs.Common.{List, ℕ, ◌≡◌, ◌∙◌, ◌<◌, ◌≤◌, arith, length, subst, sym}
use Rattle.audit_plan.proofs.PlaceLemmas.{within_nodes}
use Rattle.audit_net.proofs.HostLemmas.{walk_ends, walk_is_whole, walks_on}
use Rattle.audit_net.proofs.net.Net.mark_way.Goals as goal

pub mark-requires : goal.mark-requires
mark-requires c =
    let within = within_nodes c.args.self.now.plan.nodes c.loop.at c.loop.invariant.here in
    let long : length c.loop.marks ≡ length c.args.self.now.plan.nodes = c.loop.invariant.long ∙ c.requires.long in
    omega (arith, within, long)

pub returns-in_default-clause-marked : goal.returns-in_default-clause-marked
returns-in_default-clause-marked c =
    let less = subst (λ (places : List ℕ). c.loop.counter < length places) c.switches-end.ensures c.loop-test.true in
    walk_ends c.args.self.now c.args.lid c.args.from c.loop.counter c.loop.at c.args.marks.now c.loop.marks c.mark.new.marks less c.loop.invariant c.mark.ensures.marked
    (λ next goes. c.in_default.not-Goes next (c.turn.ensures ∙ goes))

pub loop-preserved : goal.loop-preserved
loop-preserved c =
    let less = subst (λ (places : List ℕ). c.loop.counter < length places) c.switches-end.ensures c.loop-test.true in
    walks_on c.args.self.now c.args.lid c.args.from c.loop.counter c.loop.at c.in-Goes.next c.args.marks.now c.loop.marks c.mark.new.marks less c.loop.invariant
    c.mark.ensures.long c.mark.ensures.marked (sym c.turn.ensures ∙ c.in-Goes.is)

pub returns-clause-marked : goal.returns-clause-marked
returns-clause-marked c =
    let most = subst (λ (places : List ℕ). length places ≤ c.loop.counter) c.switches-end.ensures c.loop-test.false in
    walk_is_whole c.args.self.now c.args.lid c.args.from c.loop.counter c.loop.at c.args.marks.now c.loop.marks most c.loop.invariant
