-- Parts of lines, and the numbers in them.
use Rattle.std.specs.Prelude.{ℕ, Bool, ◌^◌, ◌==◌, nat_eq, List, length, drop, if◌then◌else◌, Result, Ok, Err}
use Rattle.std.specs.List.{starts_with}
use Rattle.std.specs.Option.{ok_or}
use Rattle.text_words.specs.Cut.{cut_at}
use Rattle.text_words.specs.Number.{if_under, number_in, u16_in}
use Rattle.pkeys_file.specs.declared.fault.KeysCause.{KeysCause}
use Rattle.pkeys_file.specs.declared.fault.KeysCause.TheVariants.{Malformed}

-- what was found, if the test holds
abbrev pub only_if : {X : Type 0} → Bool → X → Result X KeysCause
only_if test found = if test then Ok found else Err Malformed

-- what stands behind this beginning of a text
abbrev pub behind : List ℕ → List ℕ → Result (List ℕ) KeysCause
behind first text = only_if (starts_with nat_eq text first) (drop (length first) text)

-- what stands before and behind the first such byte
abbrev pub cut : ℕ → List ℕ → Result (List ℕ × List ℕ) KeysCause
cut wanted text = ok_or (cut_at (λ byte. byte == wanted) text) Malformed

-- ---- numbers, decimal or in hexadecimal digits behind `0x`: one of 16 bits, as a LID, a P_Key or a capacity; a port of 8; a
-- GUID of 64
abbrev pub u16_of : List ℕ → Result ℕ KeysCause
u16_of word = ok_or (u16_in word) Malformed

abbrev pub port_of : List ℕ → Result ℕ KeysCause
port_of word = ok_or (if_under (2 ^ 8) (number_in word)) Malformed

abbrev pub guid_of : List ℕ → Result ℕ KeysCause
guid_of word = ok_or (if_under (2 ^ 64) (number_in word)) Malformed
