use Rattle.std.proofs.Common.{arith, refl}
use Rattle.mad_layout.proofs.WindowLemmas.{shifts}
use Rattle.mad_layout.proofs.bits.with_digits.Goals as goal

pub overflow_add-result : goal.overflow_add-result
overflow_add-result c =
    let s = shifts c.args.number c.args.low c.args.len c.args.value 72 c.requires.number c.requires.within (omega arith) c.requires.fits in
    rw (s.high, c.from.ensures) (omega (arith, s.narrow))

pub overflow_add-result-2 : goal.overflow_add-result-2
overflow_add-result-2 c =
    let s = shifts c.args.number c.args.low c.args.len c.args.value 72 c.requires.number c.requires.within (omega arith) c.requires.fits in
    rw (s.high, c.from.ensures, s.middle, s.mask) (omega (arith, s.whole))

pub returns : goal.returns
returns c =
    let s = shifts c.args.number c.args.low c.args.len c.args.value 72 c.requires.number c.requires.within (omega arith) c.requires.fits in
    rw (s.high, c.from.ensures, s.middle, s.mask) refl
