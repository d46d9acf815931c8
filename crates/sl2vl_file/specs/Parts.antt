-- Parts of lines, and the numbers in them.
use Rattle.std.specs.Prelude.{ℕ, Bool, ◌^◌, ◌==◌, nat_eq, List, codes, length, drop, if◌then◌else◌, Result, Ok, Err}
use Rattle.std.specs.List.{starts_with}
use Rattle.std.specs.Option.{ok_or}
use Rattle.step_results.specs.Steps.{◌>>=◌}
use Rattle.text_words.specs.Cut.{cut_at}
use Rattle.text_words.specs.Number.{digits_in, if_under}
use Rattle.sl2vl_file.specs.declared.fault.LanesCause.{LanesCause}
use Rattle.sl2vl_file.specs.declared.fault.LanesCause.TheVariants.{Malformed}

-- what was found, if the test holds
abbrev pub only_if : {X : Type 0} → Bool → X → Result X LanesCause
only_if test found = if test then Ok found else Err Malformed

-- what stands behind this beginning of a text
abbrev pub behind : List ℕ → List ℕ → Result (List ℕ) LanesCause
behind first text = only_if (starts_with nat_eq text first) (drop (length first) text)

-- what stands before and behind the first such byte
abbrev pub cut : ℕ → List ℕ → Result (List ℕ × List ℕ) LanesCause
cut wanted text = ok_or (cut_at (λ byte. byte == wanted) text) Malformed

-- ---- numbers: a LID in decimal digits
abbrev pub lid_in : List ℕ → Result ℕ LanesCause
lid_in word = ok_or (if_under (2 ^ 16) (digits_in 10 word)) Malformed

-- a port in decimal digits, which a blank may precede
abbrev pub unpadded : List ℕ → List ℕ
unpadded word = if starts_with nat_eq word (codes " ") then drop 1 word else word

abbrev pub port_in : List ℕ → Result ℕ LanesCause
port_in word = ok_or (if_under (2 ^ 8) (digits_in 10 (unpadded word))) Malformed

-- an SL in hexadecimal digits behind `0x`
abbrev pub sl_in : List ℕ → Result ℕ LanesCause
sl_in word = behind (codes "0x") word >>= λ digits. ok_or (if_under 16 (digits_in 16 digits)) Malformed
