use Rattle.std.proofs.Common.{ℕ, List, ◌≡◌, ◌<◌, ◌+◌, ◌-◌, length, ap, subst, sym, ◌∙◌}
use Rattle.audit_net.specs.Following.{end_within, switch_total, then_end, turn}
use Rattle.audit_net.specs.declared.following.Turn.TheVariants as turns
use Rattle.audit_net.proofs.FollowingLemmas.{end_step, ends_here}
use Rattle.audit_net.proofs.net.Net.end_from.Goals as goal

pub returns-in_default : goal.returns-in_default
returns-in_default c =
    let net = c.args.self.now in
    let lid = c.args.lid in
    let less = subst (λ (places : List ℕ). c.loop.counter < length places) c.switches-end.ensures c.loop-test.true in
    let rest : ℕ → _ = λ next. end_within net lid (switch_total net - (c.loop.counter + 1)) next in
    sym (ends_here rest c.turn.result c.in_default.not-Goes) ∙ ap (then_end rest) c.turn.ensures
    ∙ end_step net lid (switch_total net) c.loop.counter c.loop.at _ less c.loop.invariant

pub loop-preserved : goal.loop-preserved
loop-preserved c =
    let net = c.args.self.now in
    let lid = c.args.lid in
    let less = subst (λ (places : List ℕ). c.loop.counter < length places) c.switches-end.ensures c.loop-test.true in
    let rest : ℕ → _ = λ next. end_within net lid (switch_total net - (c.loop.counter + 1)) next in
    let goes : turn net lid c.loop.at ≡ turns.Goes c.in-Goes.next = sym c.turn.ensures ∙ c.in-Goes.is in
    sym (ap (then_end rest) goes) ∙ end_step net lid (switch_total net) c.loop.counter c.loop.at _ less c.loop.invariant
