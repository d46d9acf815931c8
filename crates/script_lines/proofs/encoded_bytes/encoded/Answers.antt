use Rattle.std.proofs.Common.{◌≡◌, ◌/◌, ◌≤◌, ℕ, length, ap, arith, sym, subst, Ok, Err, refl}
use Rattle.hex.specs.Hex.{decode_sized}
use Rattle.script_lines.specs.EncodedBytes.{in_room}
use Rattle.script_lines.proofs.PayloadLemmas.{decoded_so, refused, refused_so, room_of, encoded_out, too_long}
use Rattle.script_lines.proofs.encoded_bytes.encoded.Goals as goal

pub returns-then-count-size : goal.returns-then-count-size
returns-then-count-size c d = ap (in_room c.row.ROOM) (sym (too_long d.args.size d.args.digits.now d.if-count-size.true))

pub returns-in-Ok : goal.returns-in-Ok
returns-in-Ok c d =
    let room : ℕ = c.row.ROOM in
    let count : ℕ = length d.args.digits.now / 2 in
    let fits : count ≤ d.args.size = d.if-count-size.false in
    let within : d.args.size ≤ room = d.requires in
    let reported = decoded_so _ _ _ _ d.decode_to_slice.ensures.value d.in-Ok.is in
    let decoded = subst (λ (n : ℕ). decode_sized d.args.digits.now n ≡ Ok d.decode_to_slice.new.out) (room_of count room (omega arith)) reported in
    sym (encoded_out d.args.size count room d.args.digits.now d.decode_to_slice.new.out decoded fits within)

pub returns-in-Err : goal.returns-in-Err
returns-in-Err c d =
    let room : ℕ = c.row.ROOM in
    let count : ℕ = length d.args.digits.now / 2 in
    let fits : count ≤ d.args.size = d.if-count-size.false in
    let within : d.args.size ≤ room = d.requires in
    let reported = refused_so _ _ _ _ d.decode_to_slice.ensures.value d.in-Err.is in
    let why = subst (λ (n : ℕ). decode_sized d.args.digits.now n ≡ Err d.in-Err.field-0) (room_of count room (omega arith)) reported in
    ap (in_room room) (sym (refused d.args.size count d.args.digits.now d.in-Err.field-0 refl why))
