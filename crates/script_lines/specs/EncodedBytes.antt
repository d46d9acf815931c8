-- Bytes that a word writes, as `N:HEX`.
use Rattle.std.specs.Prelude.{ℕ, ◌-◌, Bool, ◌==◌, nat_le, List, ◌++◌, length, replicate, Option, None, Result, Ok, Err, if◌then◌else◌}
use Rattle.std.specs.Option.{option_and_then, option_map}
use Rattle.std.specs.Result.{result_ok}
use Rattle.hex.specs.Hex.{decode_of}
use Rattle.text_words.specs.Cut.{cut_at}
use Rattle.text_words.specs.Number.{number_in}
use Rattle.step_results.specs.Steps.{◌>>=◌}
use Rattle.script_lines.specs.declared.script_cause.ScriptCause.{ScriptCause}
use Rattle.script_lines.specs.declared.script_cause.ScriptCause.TheVariants.{BadField}

abbrev pub is_colon : ℕ → Bool
is_colon byte = byte == 58

-- bytes as a word writes them: how many before the colon, and behind it the digits of the first of them
pub record Written : Type 0 where
  pub size : ℕ
  pub digits : List ℕ

abbrev pub written_in : List ℕ → Option Written
written_in word =
    option_and_then (λ parts. option_map (λ n. record { size = n; digits = parts.1 }) (number_in parts.0)) (cut_at is_colon word)

abbrev pub bytes_or_fault : {E : Type 0} → Result (List ℕ) E → Result (List ℕ) ScriptCause
bytes_or_fault (Ok bytes) = Ok bytes
bytes_or_fault (Err error) = Err BadField

-- these bytes, then zero bytes up to N
abbrev pub filled : ℕ → List ℕ → Result (List ℕ) ScriptCause
filled n bytes = if nat_le (length bytes) n then Ok (bytes ++ replicate (n - length bytes) 0) else Err BadField

-- N bytes: those that HEX encodes, then zero bytes
unfoldable pub encoded : ℕ → List ℕ → Result (List ℕ) ScriptCause
encoded n digits = bytes_or_fault (decode_of digits) >>= λ bytes. filled n bytes

-- bytes, then zero bytes up to this many
abbrev pub in_room : ℕ → Result (List ℕ) ScriptCause → Result (List ℕ) ScriptCause
in_room room bytes = bytes >>= λ some. filled room some

-- ---- a MAD: 256 bytes
abbrev pub mad_of : Written → Option (List ℕ)
mad_of written = if written.size == 256 then result_ok (encoded 256 written.digits) else None

abbrev pub mad_in : List ℕ → Option (List ℕ)
mad_in word = option_and_then mad_of (written_in word)
