-- Names, and ports of named nodes.
use Rattle.std.specs.Prelude.{ℕ, Bool, ◌==◌, ◌&&◌, ◌||◌, nat_le, if◌then◌else◌, List, length, Option, None}
use Rattle.std.specs.List.{list_all, list_any, before_first, after_first}
use Rattle.std.specs.Char.{is_ascii_alphanumeric}
use Rattle.std.specs.Option.{option_map}
use Rattle.text_words.specs.declared.word.PortWord.{PortWord}
use Rattle.text_words.specs.Number.{number_in}

-- a letter, a digit, `_`, `-` or `.`
abbrev pub is_name_byte : ℕ → Bool
is_name_byte byte = is_ascii_alphanumeric byte || ((byte == 95) || ((byte == 45) || (byte == 46)))

-- 1 to 32 of them
abbrev pub is_name : List ℕ → Bool
is_name word = nat_le 1 (length word) && (nat_le (length word) 32 && list_all is_name_byte word)

-- a port as a text writes it, before it is known whether there is such a node or port
pub record Port : Type 0 where
  pub name : List ℕ
  pub number : ℕ

-- what a `PortWord` says
abbrev pub seen : PortWord → Port
seen word = record { name = word.name.now; number = word.number }

-- `/` stands between the name and the number
abbrev pub is_slash : ℕ → Bool
is_slash byte = byte == 47

-- a name, a slash and a number
abbrev pub port_in : List ℕ → Option Port
port_in word =
    if list_any is_slash word && is_name (before_first is_slash word)
    then option_map (λ n. record { name = before_first is_slash word; number = n }) (number_in (after_first is_slash word))
    else None
