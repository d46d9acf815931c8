use Rattle.std.proofs.Common.{◌∙◌, sym}
use Rattle.smp_wire.proofs.WalkLemmas.{begins, ends, goes_on, stops}
use Rattle.smp_wire.proofs.walking.arrive.Goals as goal

pub loop-done-init : goal.loop-done-init
loop-done-init c = begins _ _ _ _

pub returns-in_default : goal.returns-in_default
returns-in_default c =
    let below = rw c.count_of-count.ensures at c.loop-done-test.true in
    stops c.args.nodes.now c.args.cables.now c.args.manager c.args.sent.now c.loop-done.done c.loop-done.at
    c.loop-done.smp c.told-sent c.requires below c.loop-done.invariant
    (rw (← c.initial_port_of-number.ensures) (sym c.hop.ensures ∙ c.in_default.is))

pub loop-done-preserved : goal.loop-done-preserved
loop-done-preserved c =
    let below = rw c.count_of-count.ensures at c.loop-done-test.true in
    rw c.set_return_port.ensures (goes_on c.args.nodes.now c.args.cables.now c.args.manager c.args.sent.now
    c.loop-done.done c.loop-done.at c.in-Some.there c.loop-done.smp c.told-sent c.requires below
    c.loop-done.invariant (rw (← c.initial_port_of-number.ensures) (sym c.hop.ensures ∙ c.in-Some.is)))

pub returns : goal.returns
returns c =
    let over = rw c.count_of-count.ensures at c.loop-done-test.false in
    rw (c.set_pointer.ensures, c.count_of-count.ensures)
    (ends c.args.nodes.now c.args.cables.now c.args.manager c.args.sent.now c.loop-done.done c.loop-done.at
    c.loop-done.smp c.told-sent c.requires over c.loop-done.invariant)
