use Rattle.std.proofs.Common.{arith, sym, ◌∙◌}
use Rattle.text_words.proofs.NumberLemmas.{starts, encodes_more, stops, all_encoded}
use Rattle.text_words.proofs.number.wide_digits_in.Goals as goal

pub loop-byte-init : goal.loop-byte-init
loop-byte-init c = starts c.args.radix c.args.digits.now

pub loop-byte-preserved : goal.loop-byte-preserved
loop-byte-preserved c =
    encodes_more c.args.radix c.loop-byte.value c.loop-byte.byte-index c.in_ok-value.value c.args.digits.now c.loop-byte-test.true c.loop-byte.invariant (sym c.in_ok-value.ensures)

pub returns-in_err-value : goal.returns-in_err-value
returns-in_err-value c =
    c.from_residual.ensures
    ∙ sym (stops c.args.radix c.loop-byte.value c.loop-byte.byte-index c.args.digits.now (omega arith) c.loop-byte-test.true c.loop-byte.invariant (sym c.with_digit.ensures ∙ c.in_err-value.was))

pub returns : goal.returns
returns c =
    sym (all_encoded c.args.radix c.loop-byte.value c.loop-byte.byte-index c.args.digits.now c.requires.some c.loop-byte-test.false c.loop-byte.invariant)
