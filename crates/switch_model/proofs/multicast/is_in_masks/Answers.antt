use Rattle.std.proofs.Common.{◌≡◌, ◌<◌, ◌/◌, ◌%◌, ◌∙◌, [], Some, ap, arith, get_or, length, slice_get, sym}
use Rattle.std.proofs.lemmas.Option.{slice_get-get_or}
use Rattle.switch_model.specs.Multicast.{mask_of}
use Rattle.switch_model.proofs.MulticastLemmas.{bit_shown}
use Rattle.switch_model.proofs.multicast.is_in_masks.Goals as goal

pub returns-in-Some : goal.returns-in-Some
returns-in-Some g c =
    let masks = c.args.masks.now in
    let within : c.from-position.result < length masks = omega (arith, c.if-position-ge-POSITIONS.false, c.told-masks) in
    let place = c.from-position.ensures in
    let words : slice_get masks (c.args.number / 16) ≡ Some (get_or masks c.from-position.result []) =
    ap (slice_get masks) (sym place) ∙ slice_get-get_or masks c.from-position.result [] within in
    let mask : mask_of c.args.lid (get_or masks c.from-position.result []) ≡ Some c.in-Some.mask = sym c.in-Some.ensures in
    rw (words, mask) (bit_shown c.in-Some.mask (c.args.number % 16))
