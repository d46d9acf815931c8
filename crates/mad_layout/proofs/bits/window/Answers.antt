use Rattle.std.proofs.Common.{ℕ, ◌<◌, ◌≤◌, ◌^◌, ◌≡◌, ◌+◌, ◌*◌, length, arith, ap}
use Rattle.std.proofs.Math.Nat.{pow-le-pow_right}
use Rattle.std.proofs.lemmas.Grind.{pow_more}
use Rattle.std.proofs.lemmas.Int.Digits.{number_more}
use Rattle.mad_layout.proofs.NumberLemmas.{pow_bytes}
use Rattle.mad_layout.proofs.bits.window.Goals as goal

byte_fits : (i w b : ℕ) → i < 9 → w < 256 ^ i → b < 256 → w * 256 + b < 256 ^ 9
byte_fits i w b h g f =
    let top : 256 ^ i ≤ 256 ^ 8 = pow-le-pow_right {n = 256} (omega arith) {i = i} {j = 8} (omega arith) in
    omega arith

pub overflow_mul-window : goal.overflow_mul-window
overflow_mul-window c =
    let fits = byte_fits c.loop-byte.byte-index c.loop-byte.window 0 (omega arith) c.loop-byte.invariant.1 (omega arith) in
    omega arith

pub overflow_add-window : goal.overflow_add-window
overflow_add-window c =
    let byte : c.from.result < 256 = omega (arith, c.type_inv.bytes c.loop-byte.byte-index) in
    let fits = byte_fits c.loop-byte.byte-index c.loop-byte.window c.from.result (omega arith) c.loop-byte.invariant.1 byte in
    omega arith

pub loop-byte-preserved : goal.loop-byte-preserved
loop-byte-preserved c =
    let more = number_more 256 c.args.bytes.now c.loop-byte.byte-index c.loop-byte-test.true in
    let power = pow_more 256 c.loop-byte.byte-index in
    let byte : c.from.result < 256 = omega (arith, c.type_inv.bytes c.loop-byte.byte-index) in
    (cc, omega (arith, c.loop-byte.invariant.1))

pub returns-clause-fits : goal.returns-clause-fits
returns-clause-fits c =
    let ends : c.loop-byte.byte-index ≡ length c.args.bytes.now = omega arith in
    let power = ap (λ (n : ℕ). 256 ^ n) ends in
    let bytes = pow_bytes (length c.args.bytes.now) in
    omega (arith, c.loop-byte.invariant.1)
