use Rattle.std.proofs.Common.{◌∙◌, sym}
use Rattle.std.proofs.lemmas.Bool.{eq-eqb, eqb-true}
use Rattle.std.proofs.lemmas.Option.{none-some}
use Rattle.switch_model.proofs.MulticastLemmas.{bit_shown}
use Rattle.fabric_wire.proofs.SpreadLemmas.{goes_by, is_grown, low_bits, no_bits, not_by, nothing_yet}
use Rattle.fabric_wire.proofs.spreading.go_on.Goals as goal
use Rattle.fabric_wire.proofs.spreading.go_on.Goals.{then-copies-number-eq1+in-Some+in_ok-insert, then-copies-number-eq1+in_default, else-copies-number-eq1}

pub loop-number-preserved : goal.loop-number-preserved
loop-number-preserved c =
    let nodes = c.args.nodes.now in
    let cables = c.args.cabling.now.cables in
    let packet = c.args.packet.now in
    let here = c.args.here in
    let end = c.loop-number.number in
    let shown = bit_shown c.copies-copies.result end ∙ c.copies-copies.ensures end in
    elim c.if-copies-number-eq1.branch [
      | then-copies-number-eq1+in-Some+in_ok-insert w ↦
          let sends = sym shown ∙ eq-eqb _ 1 w.if-copies-number-eq1.true in
          rw (w.ports-is, w.in_ok-insert.ensures.keys)
          (goes_by nodes cables packet here w.in-Some.next end c.args.ports.now.keys c.loop-number.ports.keys c.loop-number.invariant
          sends (sym w.far_end.ensures ∙ w.in-Some.is) (rw w.in_ok-insert.ensures.keys at w.in_ok-insert.ensures.unique))
      | then-copies-number-eq1+in_default w ↦
          rw w.ports-is
          (not_by nodes cables packet here end c.args.ports.now.keys c.loop-number.ports.keys c.loop-number.invariant
          (λ next sends cable. none-some next (sym w.in_default.is ∙ w.far_end.ensures ∙ cable)))
      | else-copies-number-eq1 w ↦
          rw w.ports-is
          (not_by nodes cables packet here end c.args.ports.now.keys c.loop-number.ports.keys c.loop-number.invariant
          (λ next sends cable. w.if-copies-number-eq1.false (eqb-true _ 1 (shown ∙ sends))))
    ]

pub returns : goal.returns
returns c =
    is_grown c.args.nodes.now c.args.cabling.now.cables c.args.packet.now c.args.here c.loop-number.number c.args.ports.now.keys
    c.loop-number.ports.keys
    (low_bits c.args.nodes.now c.args.packet.now c.args.here c.copies-copies.result c.loop-number.number c.copies-copies.type_inv
    c.loop-number-test.false c.copies-copies.ensures)
    c.loop-number.invariant

pub returns-then-copies-eq0 : goal.returns-then-copies-eq0
returns-then-copies-eq0 c =
    is_grown c.args.nodes.now c.args.cabling.now.cables c.args.packet.now c.args.here 0 c.args.ports.now.keys c.args.ports.now.keys
    (no_bits c.args.nodes.now c.args.packet.now c.args.here c.copies-copies.result c.if-copies-eq0.true c.copies-copies.ensures)
    (nothing_yet c.args.nodes.now c.args.cabling.now.cables c.args.packet.now c.args.here c.args.ports.now.keys)
