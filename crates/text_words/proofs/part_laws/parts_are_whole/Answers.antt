use Rattle.std.proofs.Common.{refl}
use Rattle.std.specs.Fmt.{digits}
use Rattle.hex.specs.Hex.{encode_with}
use Rattle.text_words.proofs.part_laws.parts_are_whole.Goals as goal

pub returns : goal.returns
unfolding digits encode_with
returns c = record { hexadecimal = refl; guid = refl; name = refl; port = refl }
