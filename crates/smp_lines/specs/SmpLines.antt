-- SMPs as lines `256:HEX`, and what a fabric answers to them.
use Rattle.std.specs.Prelude.{ℕ, ◌≡◌, ◌+◌, List, [], ◌∷◌, ◌++◌, codes, Option, Some, None, option_map, IfSome, Result, Ok, Err}
use Rattle.std.specs.Io.KnownBytes.{Appends}
use Rattle.std.specs.Option.{option_and_then}
use Rattle.hex.specs.Hex.{encode_lower}
use Rattle.script_lines.specs.EncodedBytes.{mad_in}
use Rattle.smp_wire.specs.FabricState.{FabricState}
use Rattle.smp_wire.specs.Walk.{exchange_after, exchange_reply}
use Rattle.smp_lines.specs.declared.stop.SmpStop.{SmpStop}
use Rattle.smp_lines.specs.declared.stop.SmpStop.TheVariants.{Line}
use Rattle.text_streams.specs.Writing.{AppendsPart}
use Rattle.text_words.specs.Lines.{words_of}

-- ---- the SMP of a line: none in an empty line or a comment; a line with more words, or another word, is faulty
abbrev pub smp_among : List (List ℕ) → Option (Option (List ℕ))
smp_among [] = Some None
smp_among (word ∷ []) = option_map (λ smp. Some smp) (mad_in word)
smp_among words = None

abbrev pub smp_in : List ℕ → Option (Option (List ℕ))
smp_in line = option_and_then smp_among (words_of line)

-- the line of an SMP
abbrev pub mad_line : List ℕ → List ℕ
mad_line smp = codes "256:" ++ (encode_lower smp ++ codes "\n")

-- ---- what the fabric answers to it
abbrev pub reply_line : Option (List ℕ) → List ℕ
reply_line None = codes "none\n"
reply_line (Some reply) = mad_line reply

abbrev pub output_of : FabricState → Option (List ℕ) → List ℕ
output_of fabric None = []
output_of fabric (Some smp) = reply_line (exchange_reply fabric smp)

abbrev pub after : FabricState → Option (List ℕ) → FabricState
after fabric None = fabric
after fabric (Some smp) = exchange_after fabric smp

-- ---- all lines: what is printed, and the number of the first faulty line
pub record Answered : Type 0 where
  pub output : List ℕ
  pub faulty : Option ℕ

abbrev pub behind : List ℕ → Answered → Answered
behind output rest = record { output = output ++ rest.output; faulty = rest.faulty }

abbrev pub answered_by : (number : ℕ) → FabricState → Option (Option (List ℕ)) → (Option (List ℕ) → Answered) → Answered
answered_by number fabric None rest = record { output = []; faulty = Some number }
answered_by number fabric (Some smp) rest = behind (output_of fabric smp) (rest smp)

unfoldable pub answered : (number : ℕ) → FabricState → List (List ℕ) → Answered
answered number fabric [] = record { output = []; faulty = None }
answered number fabric (line ∷ lines) =
    answered_by number fabric (smp_in line) (λ smp. answered (number + 1) (after fabric smp) lines)

-- ---- how it ends: of what is printed all is written, or some of it if a read, a write or an allocation fails
abbrev pub EndsSo : {X : Type 0} → Answered → Result X SmpStop → (old new : Option (List ℕ)) → Type 0
EndsSo all (Ok done) old new = (all.faulty ≡ None) × Appends old new all.output
EndsSo all (Err (Line number)) old new = (all.faulty ≡ Some number) × Appends old new all.output
EndsSo all (Err stop) old new = AppendsPart old new all.output

-- this holds of some bytes, and of these if they are known
abbrev pub OfBytes : Option (List ℕ) → (List ℕ → Type 0) → Type 0
OfBytes known Is = (bytes : List ℕ) × IfSome known (λ all. bytes ≡ all) × Is bytes
