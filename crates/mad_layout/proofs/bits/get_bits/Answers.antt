use Rattle.std.proofs.Common.{◌≡◌, ℕ, ◌+◌, ◌*◌, ◌-◌, ◌/◌, ◌%◌, ◌^◌, take, drop, arith, ap, ◌∙◌}
use Rattle.std.proofs.lemmas.Nat.{one_shl}
use Rattle.mad_layout.specs.Bits.{number, digits}
use Rattle.mad_layout.proofs.NumberLemmas.{each_below}
use Rattle.mad_layout.proofs.WindowLemmas.{field_from_window}
use Rattle.mad_layout.proofs.bits.get_bits.Goals as goal

pub returns-clause-value : goal.returns-clause-value
returns-clause-value g c =
    let first = g.row.OFF / 8 in
    let bits = g.row.OFF % 8 + g.row.LEN in
    let count = (bits + 7) / 8 in
    let low = 8 * count - bits in
    let xs = c.args.bytes.now in
    let span : first + count - first ≡ count = omega arith in
    let mask = one_shl g.row.LEN 128 (omega arith) in
    let read : c.window-window.result ≡ number (take count (drop first xs)) =
    c.window-window.ensures.value ∙ ap (λ (n : ℕ). number (take n (drop first xs))) span in
    ap (λ (n : ℕ). c.window-window.result / 2 ^ low % n) mask
    ∙ ap (λ (n : ℕ). digits n low g.row.LEN) read
    ∙ field_from_window xs first count g.row.OFF g.row.LEN low
    (each_below xs (λ k. omega (arith, c.type_inv.bytes k))) (omega arith) (omega arith) (omega arith)
