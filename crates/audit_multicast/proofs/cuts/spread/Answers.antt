use Rattle.std.proofs.Common.{◌≡◌, ◌+◌, suc, ap, arith, sym, ◌∙◌}
use Rattle.audit_multicast.specs.Spreading.{all_before, spread_marks, spread_on}
use Rattle.audit_multicast.proofs.CutLemmas.{one_hop, stays}
use Rattle.audit_multicast.proofs.cuts.spread.Goals as goal

pub returns-then-are_same : goal.returns-then-are_same
returns-then-are_same c =
    let net = c.args.net.now in
    let all = c.args.all.now in
    let place = c.args.place in
    let hop = c.loop-hop._hop in
    let marks = c.loop-hop.marks.items in
    let next = c.in_ok-next.next.items in
    let step : next ≡ spread_on (all_before net all) marks =
    c.in_ok-next.ensures ∙ ap (spread_on c.args.before.now) c.deref.ensures.value ∙ ap (λ before. spread_on before marks) c.requires in
    let same : next ≡ marks = sym c.deref-in-loop-hop.ensures.value ∙ c.are_same.ensures c.if-are_same.true ∙ c.deref-in-loop-hop-2.ensures.value in
    let before = c.loop-hop.invariant in
    let still : spread_marks net all place (suc hop) ≡ spread_marks net all place hop =
    sym (one_hop net all place hop) ∙ ap (spread_on (all_before net all)) (sym before) ∙ sym step ∙ same ∙ before in
    let within = c.loop-hop-test.true in
    before ∙ sym (stays net all place hop still (omega (arith, within)))

pub loop-hop-preserved : goal.loop-hop-preserved
loop-hop-preserved c =
    let net = c.args.net.now in
    let all = c.args.all.now in
    let place = c.args.place in
    let hop = c.loop-hop._hop in
    let marks = c.loop-hop.marks.items in
    let next : hop + 1 ≡ suc hop = omega arith in
    c.in_ok-next.ensures ∙ ap (spread_on c.args.before.now) c.deref.ensures.value ∙ ap (λ before. spread_on before marks) c.requires
    ∙ ap (spread_on (all_before net all)) c.loop-hop.invariant ∙ one_hop net all place hop ∙ ap (spread_marks net all place) (sym next)
