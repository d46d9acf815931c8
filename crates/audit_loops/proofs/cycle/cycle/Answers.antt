use Rattle.std.proofs.Common.{List, Bool, ◌≡◌, ◌∙◌, false, ap, None, Some, option_map, sym}
use Rattle.topo_file.specs.Rounds.{is_marked}
use Rattle.audit_loops.specs.Cycle.{cycle_through}
use Rattle.audit_loops.proofs.CycleLemmas.{first_through, none_through, not_through}
use Rattle.audit_loops.proofs.cycle.cycle.Goals as goal

pub loop-place-preserved-then-not-is_marked : goal.loop-place-preserved-then-not-is_marked
loop-place-preserved-then-not-is_marked c =
    let place = c.loop-place.place in
    let off : is_marked c.in_ok-marks.marks.items place ≡ false =
    ap (λ (m : List Bool). is_marked m place) (sym c.deref.ensures.value) ∙ sym c.is_marked.ensures ∙ c.if-not-is_marked.true in
    not_through c.args.graph.now place _ c.loop-place-test.true (none_through c.args.graph.now c.in_ok-marks.marks.items place c.in_ok-marks.ensures off) c.loop-place.invariant

pub returns-in-Some : goal.returns-in-Some
returns-in-Some c =
    let some : cycle_through c.args.graph.now c.loop-place.place ≡ Some c.in-Some.ring.items =
    sym c.in_ok-ring.ensures ∙ ap (option_map (λ ring. ring.items)) c.in-Some.is in
    first_through c.args.graph.now c.loop-place.place c.in-Some.ring.items _ c.loop-place-test.true some c.loop-place.invariant

pub loop-place-preserved : goal.loop-place-preserved
loop-place-preserved c =
    let none : cycle_through c.args.graph.now c.loop-place.place ≡ None =
    sym c.in_ok-ring.ensures ∙ ap (option_map (λ ring. ring.items)) c.in_default.is in
    not_through c.args.graph.now c.loop-place.place _ c.loop-place-test.true none c.loop-place.invariant
