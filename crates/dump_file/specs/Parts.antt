-- Parts of lines, and the numbers in them.
use Rattle.std.specs.Prelude.{ℕ, Bool, ◌-◌, ◌^◌, ◌==◌, nat_eq, List, length, take, drop, if◌then◌else◌, Result, Ok, Err}
use Rattle.std.specs.List.{starts_with, ends_with}
use Rattle.std.specs.Option.{ok_or}
use Rattle.step_results.specs.Steps.{◌>>=◌}
use Rattle.text_words.specs.Cut.{cut_at}
use Rattle.text_words.specs.Number.{if_under, number_in, u16_in}
use Rattle.dump_file.specs.declared.fault.DumpCause.{DumpCause}
use Rattle.dump_file.specs.declared.fault.DumpCause.TheVariants.{Malformed}

-- what was found, if the test holds
abbrev pub only_if : {X : Type 0} → Bool → X → Result X DumpCause
only_if test found = if test then Ok found else Err Malformed

-- what stands behind this beginning of a text
abbrev pub behind : List ℕ → List ℕ → Result (List ℕ) DumpCause
behind first text = only_if (starts_with nat_eq text first) (drop (length first) text)

-- what stands before this end of a text
abbrev pub before : List ℕ → List ℕ → Result (List ℕ) DumpCause
before last text = only_if (ends_with nat_eq text last) (take (length text - length last) text)

-- what stands between both
abbrev pub between : List ℕ → List ℕ → List ℕ → Result (List ℕ) DumpCause
between first last text = behind first text >>= before last

-- what stands before and behind the first such byte
abbrev pub cut : ℕ → List ℕ → Result (List ℕ × List ℕ) DumpCause
cut wanted text = ok_or (cut_at (λ byte. byte == wanted) text) Malformed

-- ---- numbers, decimal or in hexadecimal digits behind `0x`: one of 128 bits, a LID of 16, a port of 8, a GUID of 64
abbrev pub count_in : List ℕ → Result ℕ DumpCause
count_in word = ok_or (number_in word) Malformed

abbrev pub lid_in : List ℕ → Result ℕ DumpCause
lid_in word = ok_or (u16_in word) Malformed

abbrev pub port_in : List ℕ → Result ℕ DumpCause
port_in word = ok_or (if_under (2 ^ 8) (number_in word)) Malformed

abbrev pub guid_in : List ℕ → Result ℕ DumpCause
guid_in word = ok_or (if_under (2 ^ 64) (number_in word)) Malformed
