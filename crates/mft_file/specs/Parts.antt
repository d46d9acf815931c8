-- Parts of lines, and the numbers in them.
use Rattle.std.specs.Prelude.{ℕ, Bool, ◌^◌, ◌==◌, nat_eq, List, length, drop, if◌then◌else◌, Result, Ok, Err}
use Rattle.std.specs.List.{starts_with}
use Rattle.std.specs.Option.{ok_or}
use Rattle.text_words.specs.Cut.{cut_at}
use Rattle.text_words.specs.Number.{if_under, number_in, u16_in}
use Rattle.mft_file.specs.declared.fault.MftCause.{MftCause}
use Rattle.mft_file.specs.declared.fault.MftCause.TheVariants.{Malformed}

-- what was found, if the test holds
abbrev pub only_if : {X : Type 0} → Bool → X → Result X MftCause
only_if test found = if test then Ok found else Err Malformed

-- what stands behind this beginning of a text
abbrev pub behind : List ℕ → List ℕ → Result (List ℕ) MftCause
behind first text = only_if (starts_with nat_eq text first) (drop (length first) text)

-- what stands before and behind the first such byte
abbrev pub cut : ℕ → List ℕ → Result (List ℕ × List ℕ) MftCause
cut wanted text = ok_or (cut_at (λ byte. byte == wanted) text) Malformed

-- ---- numbers, decimal or in hexadecimal digits behind `0x`: one of 128 bits, an MLID of 16, a GUID of 64
abbrev pub count_in : List ℕ → Result ℕ MftCause
count_in word = ok_or (number_in word) Malformed

abbrev pub mlid_in : List ℕ → Result ℕ MftCause
mlid_in word = ok_or (u16_in word) Malformed

abbrev pub guid_in : List ℕ → Result ℕ MftCause
guid_in word = ok_or (if_under (2 ^ 64) (number_in word)) Malformed
