use Rattle.std.proofs.Common.{ℕ, List, ◌≡◌, ◌==◌, ◌<◌, ◌+◌, ◌-◌, true, false, length, arith, subst, sym, ◌∙◌}
use Rattle.std.proofs.lemmas.Bool.{eq-eqb}
use Rattle.std.proofs.lemmas.Bool.Decides.{nat_tests}
use Rattle.audit_net.specs.Following.{switch_total, turn}
use Rattle.audit_net.specs.declared.following.Turn.TheVariants as turns
use Rattle.audit_net.proofs.FollowingLemmas.{back_ends, back_goes_on, back_step, comes_back}
use Rattle.audit_net.proofs.net.Net.loop_from.Goals as goal

pub returns-then-at-home : goal.returns-then-at-home
returns-then-at-home c =
    let net = c.args.self.now in
    let less = subst (λ (places : List ℕ). c.loop.counter < length places) c.switches-end.ensures c.loop-test.true in
    let here : (c.loop.at == c.args.home) ≡ true = eq-eqb c.loop.at c.args.home c.if-at-home.true in
    comes_back net c.args.lid c.args.home (switch_total net - (c.loop.counter + 1)) c.loop.at c.loop.places.items _ here
    (back_step net c.args.lid c.args.home (switch_total net) c.loop.counter c.loop.at c.loop.places.items _ less c.loop.invariant)

pub returns-in_default-turn : goal.returns-in_default-turn
returns-in_default-turn c =
    let net = c.args.self.now in
    let less = subst (λ (places : List ℕ). c.loop.counter < length places) c.switches-end.ensures c.loop-test.true in
    let away : (c.loop.at == c.args.home) ≡ false = grind (arith, nat_tests) in
    back_ends net c.args.lid c.args.home (switch_total net - (c.loop.counter + 1)) c.loop.at c.loop.places.items _ away
    (λ next goes. c.in_default-turn.not-Goes next (c.turn-in-loop.ensures ∙ goes))
    (back_step net c.args.lid c.args.home (switch_total net) c.loop.counter c.loop.at c.loop.places.items _ less c.loop.invariant)

pub loop-preserved : goal.loop-preserved
loop-preserved c =
    let net = c.args.self.now in
    let less = subst (λ (places : List ℕ). c.loop.counter < length places) c.switches-end.ensures c.loop-test.true in
    let away : (c.loop.at == c.args.home) ≡ false = grind (arith, nat_tests) in
    let goes : turn net c.args.lid c.loop.at ≡ turns.Goes c.in-Goes-turn.next = sym c.turn-in-loop.ensures ∙ c.in-Goes-turn.is in
    rw c.in_ok-push-2.ensures.items
    (back_goes_on net c.args.lid c.args.home (switch_total net - (c.loop.counter + 1)) c.loop.at c.in-Goes-turn.next c.loop.places.items _ away goes
    (back_step net c.args.lid c.args.home (switch_total net) c.loop.counter c.loop.at c.loop.places.items _ less c.loop.invariant))
