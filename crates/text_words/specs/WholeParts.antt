-- Each part of a text, once as a whole.
use Rattle.std.specs.Prelude.{◌≡◌, [], ◌∷◌, codes}
use Rattle.text_words.specs.Parts.{guid_text, hex_text, port_name, quoted}

pub record PartsAreWhole : Type 0 where
  pub hexadecimal : hex_text (0 ∷ 255 ∷ []) ≡ codes "0x00ff"
  pub guid : guid_text 0x7cfe9003009f0a11 ≡ codes "0x7cfe9003009f0a11"
  pub name : quoted (codes "h1") ≡ codes "\"h1\""
  pub port : port_name (codes "h1") 12 ≡ codes "h1/12"
