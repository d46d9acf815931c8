use Rattle.std.proofs.Common.{ℕ, ◌<◌, ◌≤◌, subst, sym, ◌∙◌}
use Rattle.audit_lanes.specs.Hops.{enough_hops}
use Rattle.audit_lanes.proofs.HopLemmas.{all_passed, ends_here, last_hop, next_hop}
use Rattle.audit_lanes.proofs.hops.hops_within.Goals as goal

pub returns-in_default : goal.returns-in_default
returns-in_default c =
    let net = c.args.net.now in
    let less = subst (λ (n : ℕ). c.loop.counter < n) c.enough_hops-end.ensures c.loop-test.true in
    ends_here net c.args.tables.now c.args.path (enough_hops net) c.loop.counter c.loop.at c.loop.hops.items _ less (sym c.step_of.ensures ∙ c.in_default.is) c.loop.invariant

pub returns-in_default-next : goal.returns-in_default-next
returns-in_default-next c =
    let net = c.args.net.now in
    let less = subst (λ (n : ℕ). c.loop.counter < n) c.enough_hops-end.ensures c.loop-test.true in
    c.in_ok-push.ensures.items
    ∙ last_hop net c.args.tables.now c.args.path (enough_hops net) c.loop.counter c.loop.at c.loop.hops.items _ c.in-Some.step less
    (sym c.step_of.ensures ∙ c.in-Some.is) c.in_default-next.is c.loop.invariant

pub loop-preserved : goal.loop-preserved
loop-preserved c =
    let net = c.args.net.now in
    let less = subst (λ (n : ℕ). c.loop.counter < n) c.enough_hops-end.ensures c.loop-test.true in
    rw c.in_ok-push.ensures.items
    (next_hop net c.args.tables.now c.args.path (enough_hops net) c.loop.counter c.loop.at c.in-Some-next.next c.loop.hops.items _ c.in-Some.step less
    (sym c.step_of.ensures ∙ c.in-Some.is) c.in-Some-next.is c.loop.invariant)

pub returns : goal.returns
returns c =
    let net = c.args.net.now in
    let past = subst (λ (n : ℕ). n ≤ c.loop.counter) c.enough_hops-end.ensures c.loop-test.false in
    all_passed net c.args.tables.now c.args.path (enough_hops net) c.loop.counter c.loop.at c.loop.hops.items _ past c.loop.invariant
