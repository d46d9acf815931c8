use Rattle.std.proofs.Common.{◌≤◌, ◌<◌, ◌+◌, ◌∙◌, arith, length, subst, sym}
use Rattle.switch_model.specs.Multicast.{copies_out}
use Rattle.switch_model.proofs.MulticastLemmas.{AreBits, all_asked, one_passed, one_set}
use Rattle.switch_model.proofs.switch.Switch.multicast_out.Goals.{then-copies_out, else-copies_out}
use Rattle.switch_model.proofs.switch.Switch.multicast_out.Goals as goal

pub loop-number-preserved : goal.loop-number-preserved
loop-number-preserved g c =
    let passes = copies_out c.args.self.now c.args.in_port c.args.packet.now in
    let few : c.loop-number.number < 64 = omega (arith, c.loop-number-test.true, c.port_count-number-end.ensures.few) in
    elim c.if-copies_out.branch [
      | then-copies_out w ↦
          subst (λ out. AreBits out (c.loop-number.number + 1) passes) (sym w.out-is)
          (one_set c.loop-number.out c.loop-number.number passes few (sym c.copies_out.ensures ∙ w.if-copies_out.true) c.loop-number.invariant)
      | else-copies_out w ↦
          subst (λ out. AreBits out (c.loop-number.number + 1) passes) (sym w.out-is)
          (one_passed c.loop-number.out c.loop-number.number passes (sym c.copies_out.ensures ∙ w.if-copies_out.false) c.loop-number.invariant)
    ]

pub returns : goal.returns
returns g c =
    let all : length c.args.self.now.ports ≤ c.loop-number.number = omega (arith, c.loop-number-test.false, c.port_count-number-end.ensures.count) in
    all_asked c.args.self.now c.args.in_port c.args.packet.now c.loop-number.out c.loop-number.number all c.loop-number.invariant
