-- A linear forwarding table as a whole text.
use Rattle.std.proofs.Common.{refl}
use Rattle.std.specs.Fmt.{digits}
use Rattle.hex.specs.Hex.{encode_with}
use Rattle.fabric_tables.specs.Digits.{short_hex_text}
use Rattle.fabric_tables.specs.Tables.{count_line, head_line, port_text, titles}
use Rattle.fabric_tables.specs.Whole.{LinearTableIsWhole}

pub linear_is_whole : LinearTableIsWhole
unfolding digits encode_with short_hex_text count_line head_line port_text titles
linear_is_whole = refl
