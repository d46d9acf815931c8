use Rattle.std.proofs.Common.{◌≡◌, ℕ, List, ◌+◌, ◌-◌, ◌/◌, ◌++◌, ◌*◌, ◌^◌, length, take, drop, arith, ap, ◌∙◌, refl}
use Rattle.mad_layout.specs.Bits.{number}
use Rattle.mad_layout.proofs.NumberLemmas.{number_below}
use Rattle.mad_layout.proofs.AlignedLemmas.{put_aligned}
use Rattle.mad_layout.proofs.aligned.put_bytes_at.Goals as goal

pub returns-clause-bytes : goal.returns-clause-bytes
returns-clause-bytes g c =
    let xs = c.args.bytes.now in
    let value = c.args.value.now in
    let first = g.row.OFF / 8 in
    let rest = drop first xs in
    let span : first + g.row.SIZE - first ≡ g.row.SIZE = omega arith in
    ap (λ (n : ℕ). take first xs ++ (c.copy_from_slice.new.self ++ drop n rest)) span
    ∙ ap (λ (ys : List ℕ). take first xs ++ (ys ++ drop g.row.SIZE rest)) c.copy_from_slice.ensures.after
    ∙ put_aligned xs value first g.row.SIZE g.row.OFF g.row.LEN (number value) c.known_bytes.ensures
    c.known_bytes-2.ensures c.told-value (omega arith) (omega arith) (omega arith) refl

pub returns-clause-fits : goal.returns-clause-fits
returns-clause-fits g c =
    let wide : 8 * length c.args.value.now ≡ g.row.LEN = omega (arith, c.told-value) in
    rw (ap (λ (n : ℕ). 2 ^ n) wide) at (number_below c.args.value.now c.known_bytes-2.ensures)
