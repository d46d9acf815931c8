use Rattle.std.proofs.Common.{◌∙◌, sym, arith}
use Rattle.smp_wire.proofs.DeliveryLemmas.{nobody}
use Rattle.fabric_wire.proofs.ReceiverLemmas.{gets, nobody_gets}
use Rattle.fabric_wire.proofs.spreading.receivers.Goals as goal

pub returns-in_default-clause-each : goal.returns-in_default-clause-each
returns-in_default-clause-each c =
    rw c.new.ensures.items
    (λ one. (
      λ there. absurd (let low = there.1 in omega (arith, low)),
      λ is. absurd (nobody_gets c.args.nodes.now c.args.cabling.now.cables c.args.from c.args.packet.now one
          (sym c.far_end.ensures ∙ c.in_default.is) is),
    ))

pub returns-in_default-clause-order : goal.returns-in_default-clause-order
returns-in_default-clause-order c = rw c.new.ensures.items nobody

pub returns-clause-each : goal.returns-clause-each
returns-clause-each c one =
    let same = rw (c.in_ok-accepting.ensures, c.as_slice.ensures.keys) at c.in_order.ensures.same one in
    let all = gets c.args.nodes.now c.args.cabling.now.cables c.args.from c.in-Some.first c.args.packet.now
    (sym c.far_end.ensures ∙ c.in-Some.is) c.in_ok-ports.ports.keys c.in_ok-ports.ensures one in
    (λ there. all.0 (same.0 there), λ is. same.1 (all.1 is))
