use Rattle.std.proofs.Common.{◌≡◌, ℕ, ◌+◌, ◌-◌, ◌/◌, take, drop, arith, ap, ◌∙◌}
use Rattle.mad_layout.specs.Bits.{number}
use Rattle.mad_layout.proofs.NumberLemmas.{each_below}
use Rattle.mad_layout.proofs.AlignedLemmas.{field_aligned}
use Rattle.mad_layout.proofs.aligned.bytes_at.Goals as goal

pub returns-clause-value : goal.returns-clause-value
returns-clause-value g c =
    let xs = c.args.bytes.now in
    let first = g.row.OFF / 8 in
    let span : first + g.row.SIZE - first ≡ g.row.SIZE = omega arith in
    ap number c.copy_from_slice.ensures.after
    ∙ ap (λ (n : ℕ). number (take n (drop first xs))) span
    ∙ field_aligned xs first g.row.SIZE g.row.OFF g.row.LEN (each_below xs (λ k. omega (arith, c.type_inv.bytes k)))
    (omega arith) (omega arith) (omega arith)
