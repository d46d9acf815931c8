use Rattle.std.proofs.Common.{List, Bool, ◌≡◌, true, false, ap, sym, ◌∙◌}
use Rattle.topo_file.specs.Rounds.{is_marked}
use Rattle.audit_loops.specs.Marks.{round}
use Rattle.audit_loops.proofs.CycleLemmas.{all_before, comes_home, never_home, rounds_step, stays_away}
use Rattle.audit_loops.proofs.cycle.rounds_home.Goals as goal

pub returns-then-is_marked-clause-shortest : goal.returns-then-is_marked-clause-shortest
returns-then-is_marked-clause-shortest c =
    let home = c.args.home in
    let here : is_marked c.loop.marks.items home ≡ true = ap (λ (m : List Bool). is_marked m home) (sym c.deref.ensures.value) ∙ sym c.is_marked.ensures ∙ c.if-is_marked.true in
    comes_home c.args.graph.now home c.loop.counter c.loop.before.items c.loop.marks.items c.loop-test.true c.loop.invariant here

pub returns-then-is_marked-clause-marks : goal.returns-then-is_marked-clause-marks
returns-then-is_marked-clause-marks c = all_before c.args.graph.now c.args.home c.loop.counter c.loop.before.items c.loop.marks.items c.loop.invariant

pub returns-then-are_same-clause-shortest : goal.returns-then-are_same-clause-shortest
returns-then-are_same-clause-shortest c =
    let graph = c.args.graph.now in
    let home = c.args.home in
    let marks = c.loop.marks.items in
    let next = c.in_ok-next.next.items in
    let away : is_marked marks home ≡ false = ap (λ (m : List Bool). is_marked m home) (sym c.deref.ensures.value) ∙ sym c.is_marked.ensures ∙ c.if-is_marked.false in
    let step : next ≡ round graph home marks = c.in_ok-next.ensures ∙ ap (round graph home) c.deref-in-loop.ensures.value in
    let same : next ≡ marks = sym c.deref-in-loop-2.ensures.value ∙ c.are_same.ensures c.if-are_same.true ∙ c.deref-in-loop-3.ensures.value in
    stays_away graph home c.loop.counter c.loop.before.items marks next c.loop.invariant away step same

pub loop-preserved : goal.loop-preserved
loop-preserved c =
    let graph = c.args.graph.now in
    let home = c.args.home in
    let marks = c.loop.marks.items in
    let next = c.in_ok-next.next.items in
    let away : is_marked marks home ≡ false = ap (λ (m : List Bool). is_marked m home) (sym c.deref.ensures.value) ∙ sym c.is_marked.ensures ∙ c.if-is_marked.false in
    let step : next ≡ round graph home marks = c.in_ok-next.ensures ∙ ap (round graph home) c.deref-in-loop.ensures.value in
    rw (c.in_ok-push.ensures.items, c.of.ensures) (rounds_step graph home c.loop.counter c.loop.before.items marks next c.loop.invariant away step)

pub returns-clause-shortest : goal.returns-clause-shortest
returns-clause-shortest c = never_home c.args.graph.now c.args.home c.loop.counter c.loop.before.items c.loop.marks.items c.loop.invariant c.loop-test.false
