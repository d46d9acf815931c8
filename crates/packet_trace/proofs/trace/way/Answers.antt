use Rattle.std.proofs.Common.{◌≡◌, ◌+◌, ◌-◌, ◌*◌, ◌∙◌, arith, length, suc, sym}
use Rattle.packet_trace.proofs.TraceLemmas.{all_reported, ends, goes_on}
use Rattle.packet_trace.proofs.trace.way.Goals as goal

pub returns-in-None : goal.returns-in-None
returns-in-None c =
    let more = 2 * length c.args.fabric.now.cables + 1 - (c.loop-hop._hop + 1) in
    let within = rw c.cable_ends-hop-end.ensures at c.loop-hop-test.true in
    let count : 2 * length c.args.fabric.now.cables + 1 - c.loop-hop._hop ≡ suc more = omega (arith, within) in
    rw c.in_ok-push.ensures.items
    (sym (ends c.args.fabric.now c.args.packet.now _ c.loop-hop.steps.items c.loop-hop.here c.turn_after-turn.result _ more count
    c.loop-hop.invariant (rw c.deref.ensures.value at c.turn_after-turn.ensures) (sym c.next_after.ensures ∙ c.in-None.is)))

pub loop-hop-preserved : goal.loop-hop-preserved
loop-hop-preserved c =
    let more = 2 * length c.args.fabric.now.cables + 1 - (c.loop-hop._hop + 1) in
    let within = rw c.cable_ends-hop-end.ensures at c.loop-hop-test.true in
    let count : 2 * length c.args.fabric.now.cables + 1 - c.loop-hop._hop ≡ suc more = omega (arith, within) in
    rw c.in_ok-push.ensures.items
    (goes_on c.args.fabric.now c.args.packet.now _ c.loop-hop.steps.items c.loop-hop.here c.turn_after-turn.result _ more count
    c.loop-hop.invariant (rw c.deref.ensures.value at c.turn_after-turn.ensures) c.in-Some.next (sym c.next_after.ensures ∙ c.in-Some.is))

pub returns : goal.returns
returns c =
    let past = rw c.cable_ends-hop-end.ensures at c.loop-hop-test.false in
    let none : 2 * length c.args.fabric.now.cables + 1 - c.loop-hop._hop ≡ 0 = omega (arith, past) in
    all_reported c.args.fabric.now c.args.packet.now _ c.loop-hop.steps.items c.loop-hop.here _ none c.loop-hop.invariant
