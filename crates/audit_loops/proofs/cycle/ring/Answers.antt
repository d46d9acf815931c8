use Rattle.std.proofs.Common.{◌≡◌, ◌-◌, true, false, ◌==◌, Some, None, ap, refl, sym, ◌∙◌, arith}
use Rattle.std.proofs.lemmas.Bool.{eq-eqb}
use Rattle.std.proofs.lemmas.Bool.Decides.{nat_tests}
use Rattle.audit_loops.specs.Cycle.{goes_home, next_home, way}
use Rattle.audit_loops.proofs.CycleLemmas.{ring_ends, ring_goes_on}
use Rattle.audit_loops.proofs.cycle.ring.Goals as goal

pub returns-in_default : goal.returns-in_default
returns-in_default c =
    let graph = c.args.graph.now in
    let home = c.args.home in
    let count = c.loop-count.count in
    let none : next_home graph (count - 1) c.loop-count.place home ≡ None = sym c.next_home.ensures ∙ c.in_default.is in
    ring_ends graph count c.loop-count.place home c.loop-count.ring.items _ c.loop-count-test.true
    (ap (goes_home home (λ next. way graph (count - 1) next home)) none) c.loop-count.invariant

pub returns-then-next-home : goal.returns-then-next-home
returns-then-next-home c =
    let graph = c.args.graph.now in
    let home = c.args.home in
    let count = c.loop-count.count in
    let some : next_home graph (count - 1) c.loop-count.place home ≡ Some c.in-Some.next = sym c.next_home.ensures ∙ c.in-Some.is in
    let same : (c.in-Some.next == home) ≡ true = eq-eqb c.in-Some.next home c.if-next-home.true in
    ring_ends graph count c.loop-count.place home c.loop-count.ring.items _ c.loop-count-test.true
    (ap (goes_home home (λ next. way graph (count - 1) next home)) some ∙ (rw same refl)) c.loop-count.invariant

pub loop-count-preserved : goal.loop-count-preserved
loop-count-preserved c =
    let graph = c.args.graph.now in
    let home = c.args.home in
    let count = c.loop-count.count in
    let some : next_home graph (count - 1) c.loop-count.place home ≡ Some c.in-Some.next = sym c.next_home.ensures ∙ c.in-Some.is in
    let away : (c.in-Some.next == home) ≡ false = grind (arith, nat_tests) in
    rw c.in_ok-push-2.ensures.items
    (ring_goes_on graph count c.loop-count.place home c.in-Some.next c.loop-count.ring.items _ c.loop-count-test.true some away c.loop-count.invariant)
