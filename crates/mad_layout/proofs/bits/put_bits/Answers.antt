use Rattle.std.proofs.Common.{◌≡◌, ℕ, ◌+◌, ◌*◌, ◌-◌, ◌/◌, ◌%◌, ◌^◌, ◌<◌, ◌≤◌, List, ◌++◌, length, take, drop, arith, ap, ◌∙◌, sym, subst}
use Rattle.std.specs.Int.{bytes_high_first}
use Rattle.std.specs.Int.Digits.{AllBelowBase}
use Rattle.std.proofs.Math.Nat.{mod-eq_of_lt}
use Rattle.std.proofs.Math.Pow.{pow_mono}
use Rattle.byteorder.specs.Numbers.{length-bytes_high_first}
use Rattle.mad_layout.specs.Bits.{number, replaced, put_field}
use Rattle.mad_layout.proofs.NumberLemmas.{number_bytes, below_bytes, last_of_16}
use Rattle.mad_layout.proofs.WindowLemmas.{put_is, cut_at, shifts}
use Rattle.mad_layout.proofs.bits.put_bits.Goals as goal

-- the bytes of the window with its digits replaced are the field set
encoded : (xs t : List ℕ) (w first count off len low v : ℕ) → AllBelowBase 256 xs
    → t ≡ bytes_high_first count (replaced w low len v) → w ≡ number (take count (drop first xs))
    → w < 2 ^ (8 * count) → v < 2 ^ len → count ≤ 9 → first + count ≤ length xs
    → off + len + low ≡ 8 * (first + count) → 8 * first ≤ off
    → take first xs ++ (t ++ drop count (drop first xs)) ≡ put_field xs off len v
encoded xs t w first count off len low v below e is small fits few within ends starts =
    let x = replaced w low len v in
    let s = shifts w low len v (8 * count) small (omega arith) (omega arith) fits in
    let value : number t ≡ replaced (number (take count (drop first xs))) low len v =
    ap number e ∙ number_bytes count x ∙ mod-eq_of_lt s.whole ∙ ap (λ (n : ℕ). replaced n low len v) is in
    let P : List ℕ → Type 0 = AllBelowBase 256 in
    put_is xs t first count off len low v below (subst P (sym e) (below_bytes count x))
    (ap (λ (ys : List ℕ). length ys) e ∙ length-bytes_high_first count x) within ends starts value

pub with_digits-new-requires-clause-number : goal.with_digits-new-requires-clause-number
with_digits-new-requires-clause-number g c =
    let first = g.row.OFF / 8 in
    let count = (g.row.OFF % 8 + g.row.LEN + 7) / 8 in
    let span : first + count - first ≡ count = omega arith in
    let cut = cut_at c.args.bytes.now first count (omega arith) in
    let long = ap (λ (n : ℕ). length (take n (drop first c.args.bytes.now))) span ∙ cut.window in
    let small : 2 ^ (8 * length (take (first + count - first) (drop first c.args.bytes.now))) ≤ 2 ^ 72 =
    pow_mono {i = 8 * length (take (first + count - first) (drop first c.args.bytes.now))} {j = 72} (omega arith) in
    omega (arith, c.window.ensures.fits)

pub returns : goal.returns
returns g c =
    let first = g.row.OFF / 8 in
    let bits = g.row.OFF % 8 + g.row.LEN in
    let count = (bits + 7) / 8 in
    let low = 8 * count - bits in
    let xs = c.args.bytes.now in
    let t = c.copy_from_slice.new.self in
    let span : first + count - first ≡ count = omega arith in
    let cut = cut_at xs first count (omega arith) in
    let w = c.window.result in
    let is : w ≡ number (take count (drop first xs)) = c.window.ensures.value ∙ ap (λ (n : ℕ). number (take n (drop first xs))) span in
    let long = ap (λ (n : ℕ). 2 ^ (8 * length (take n (drop first xs)))) span ∙ ap (λ (n : ℕ). 2 ^ (8 * n)) cut.window in
    let small : w < 2 ^ (8 * count) = rw long at c.window.ensures.fits in
    let x = replaced w low g.row.LEN c.args.value in
    let bytes : c.to_be_bytes.result ≡ bytes_high_first 16 c.with_digits-new.result = c.to_be_bytes.ensures in
    let e : t ≡ bytes_high_first count x =
    c.copy_from_slice.ensures.after
    ∙ ap (λ (ys : List ℕ). take (16 - (16 - count)) (drop (16 - count) ys)) bytes
    ∙ last_of_16 count c.with_digits-new.result (omega arith)
    ∙ ap (λ (n : ℕ). bytes_high_first count n) c.with_digits-new.ensures in
    let put : take first xs ++ (t ++ drop count (drop first xs)) ≡ put_field xs g.row.OFF g.row.LEN c.args.value =
    encoded xs t w first count g.row.OFF g.row.LEN low c.args.value c.known_bytes.ensures e is small c.requires.fits
    (omega arith) (omega arith) (omega arith) (omega arith) in
    ap (λ (n : ℕ). take first xs ++ (t ++ drop n (drop first xs))) span ∙ put
