use Rattle.std.proofs.Common.{List, ℕ, ◌≡◌, ◌==◌, ◌∙◌, ◌<◌, ◌≤◌, true, false, arith, length, subst, sym}
use Rattle.std.proofs.lemmas.Bool.{eq-eqb}
use Rattle.std.proofs.lemmas.Bool.Decides.{nat_tests}
use Rattle.audit_net.proofs.HostLemmas.{on_way_ends, on_way_goes, on_way_here, on_way_whole}
use Rattle.audit_net.proofs.net.Net.is_on_way.Goals as goal

pub returns-then-at-there : goal.returns-then-at-there
returns-then-at-there c =
    let less = subst (λ (places : List ℕ). c.loop.counter < length places) c.switches-end.ensures c.loop-test.true in
    let here : (c.loop.at == c.args.there) ≡ true = eq-eqb c.loop.at c.args.there c.if-at-there.true in
    on_way_here c.args.self.now c.args.lid c.args.there c.loop.counter c.loop.at _ less here c.loop.invariant

pub returns-in_default : goal.returns-in_default
returns-in_default c =
    let less = subst (λ (places : List ℕ). c.loop.counter < length places) c.switches-end.ensures c.loop-test.true in
    let other : (c.loop.at == c.args.there) ≡ false = grind (arith, nat_tests) in
    on_way_ends c.args.self.now c.args.lid c.args.there c.loop.counter c.loop.at _ less other (λ next goes. c.in_default.not-Goes next (c.turn.ensures ∙ goes)) c.loop.invariant

pub loop-preserved : goal.loop-preserved
loop-preserved c =
    let less = subst (λ (places : List ℕ). c.loop.counter < length places) c.switches-end.ensures c.loop-test.true in
    let other : (c.loop.at == c.args.there) ≡ false = grind (arith, nat_tests) in
    on_way_goes c.args.self.now c.args.lid c.args.there c.loop.counter c.loop.at c.in-Goes.next _ less other (sym c.turn.ensures ∙ c.in-Goes.is) c.loop.invariant

pub returns : goal.returns
returns c =
    let most = subst (λ (places : List ℕ). length places ≤ c.loop.counter) c.switches-end.ensures c.loop-test.false in
    on_way_whole c.args.self.now c.args.lid c.args.there c.loop.counter c.loop.at _ most c.loop.invariant
