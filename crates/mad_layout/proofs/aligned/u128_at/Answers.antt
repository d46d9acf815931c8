use Rattle.std.proofs.Common.{◌/◌, arith, ◌∙◌, refl}
use Rattle.mad_layout.proofs.NumberLemmas.{each_below}
use Rattle.mad_layout.proofs.AlignedLemmas.{big_aligned}
use Rattle.mad_layout.proofs.aligned.u128_at.Goals as goal

pub returns : goal.returns
returns g c =
    let xs = c.args.bytes.now in
    c.read_u128.ensures
    ∙ big_aligned xs _ (g.row.OFF / 8) 16 g.row.OFF 128 (each_below xs (λ k. omega (arith, c.type_inv.bytes k))) refl (omega arith) (omega arith) refl
