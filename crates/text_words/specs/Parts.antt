-- The parts of texts.
use Rattle.std.specs.Prelude.{ℕ, List, ◌++◌, codes, decimal}
use Rattle.std.specs.Int.{w64, to_be_bytes}
use Rattle.hex.specs.Hex.{encode_lower}

-- bytes as a hexadecimal number, as `0x00ff`
abbrev pub hex_text : List ℕ → List ℕ
hex_text bytes = codes "0x" ++ encode_lower bytes

-- all 16 digits of a GUID, as `0x0000000000000110`
abbrev pub guid_text : ℕ → List ℕ
guid_text guid = hex_text (to_be_bytes w64 guid)

-- a name in quotes, as `"h1"`
abbrev pub quoted : List ℕ → List ℕ
quoted name = codes "\"" ++ name ++ codes "\""

-- a port by its node's name and its number, as `h1/1`
abbrev pub port_name : List ℕ → ℕ → List ℕ
port_name node number = node ++ codes "/" ++ decimal number
