use Rattle.std.proofs.Common.{◌≡◌, ◌∙◌, ◌+◌, ◌-◌, ap, arith, sym, true}
use Rattle.topo_file.specs.Node.{switch_count}
use Rattle.topo_file.specs.Rounds.{after_rounds, is_same, spread}
use Rattle.topo_file.proofs.RoundLemmas.{at_rest, same_is}
use Rattle.topo_file.proofs.connectivity.after_rounds.Goals as goal

pub returns-then-is_same : goal.returns-then-is_same
returns-then-is_same c =
    let nodes = c.args.nodes.now in
    let cables = c.args.cables.now in
    let place = c.args.place in
    let rounds = c.loop.counter in
    let marks = c.loop.marks.items in
    let next = c.in_ok-next.next.items in
    let alike : is_same next marks ≡ true =
    rw (c.deref-in-loop.ensures.value, c.deref-in-loop-2.ensures.value) at (sym c.is_same.ensures ∙ c.if-is_same.true) in
    let same : next ≡ marks = same_is next marks alike in
    let made : next ≡ spread nodes cables marks = rw c.deref.ensures.value at c.in_ok-next.ensures in
    let round : spread nodes cables (after_rounds nodes cables place rounds) ≡ after_rounds nodes cables place rounds =
    ap (spread nodes cables) (sym c.loop.invariant) ∙ sym made ∙ same ∙ c.loop.invariant in
    let left : switch_count nodes ≡ rounds + (switch_count nodes - rounds) = omega (arith, c.loop-test.true) in
    same ∙ c.loop.invariant ∙ sym (at_rest nodes cables place rounds (switch_count nodes - rounds) (switch_count nodes) left round)
