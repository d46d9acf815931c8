-- What definitions a partition text has, or its first fault: the text is gone through once, and each byte is a place.
use Rattle.std.specs.Prelude.{ℕ, Bool, true, false, not, ◌||◌, if◌then◌else◌, List, [], ◌∷◌, ◌++◌, Option, Some, None, Result, Ok, Err}
use Rattle.partition_file.specs.declared.fault.PartitionCause.{PartitionCause}
use Rattle.partition_file.specs.declared.fault.PartitionCause.TheVariants.{BadCharacter, Unfinished}
use Rattle.partition_file.specs.declared.piece.Delimiter.{Delimiter}
use Rattle.partition_file.specs.declared.piece.Delimiter.TheVariants.{Equals, Comma, Colon, Semicolon}
use Rattle.partition_file.specs.declared.definition_part.Part.{Part}
use Rattle.partition_file.specs.declared.definition_part.Part.TheVariants as part
use Rattle.partition_file.specs.declared.item.Ports.{Ports}
use Rattle.partition_file.specs.declared.definition.Definition.{Definition}
use Rattle.step_results.specs.AtLine.{AtLine, on_line}
use Rattle.step_results.specs.Steps.{◌>>=◌, unless}
use Rattle.partition_file.specs.Pieces.{without_comments, is_allowed, delimiter_of, is_equals, is_semicolon, piece_after, line_after}
use Rattle.partition_file.specs.Flags.{with_flag, with_setting, is_full_by_default}
use Rattle.partition_file.specs.declared.token.Token.{Token}
use Rattle.partition_file.specs.declared.token.Token.TheVariants.{Name, Base, FlagWord, FlagValue, ListWord, Membership}
use Rattle.partition_file.specs.declared.token.Value.TheVariants.{Taken}
use Rattle.partition_file.specs.Cases.{fault_of}
use Rattle.partition_file.specs.ScanState.{ScanState, blank, start, is_in_list}
use Rattle.partition_file.specs.Tokens.{is_empty, is_full, token_of}

-- ---- the part that follows
abbrev pub after_equals : Token → Part
after_equals (FlagWord (Some flag)) = part.FlagValue flag
after_equals (ListWord (Some ports)) = part.Membership ports
after_equals _ = part.Base

abbrev pub part_after : Part → Delimiter → Token → Part
part_after at Equals token = after_equals token
part_after at Comma token = if is_in_list at then part.ListWord else part.FlagWord
part_after at Colon token = part.ListWord
part_after at Semicolon token = part.Name

-- ---- the definition with one more piece
abbrev pub with_item : Definition → Ports → Bool → Definition
with_item d ports full = record d { items = d.items ++ record { ports = ports; full = full } ∷ [] }

-- what stands before `=` is a flag or a list word that its value ends
abbrev pub with_piece : Definition → Token → Delimiter → List ℕ → Definition
with_piece d (Name word) delimiter piece = record d { name = piece }
with_piece d (Base base) delimiter piece = record d { base = base }
with_piece d (FlagWord flag) delimiter piece = if is_equals delimiter then d else record d { flags = with_flag flag d.flags }
with_piece d (FlagValue (Taken setting)) delimiter piece = record d { flags = with_setting setting d.flags }
with_piece d (ListWord (Some ports)) delimiter piece = if is_equals delimiter then d else with_item d ports (is_full_by_default d.flags)
with_piece d (Membership ports word) delimiter piece = with_item d ports (is_full word)
with_piece d _ delimiter piece = d

-- ---- the state after a piece that has no fault; `;` ends the definition
abbrev pub moved : ScanState → Delimiter → Token → Definition → ScanState
moved s delimiter token d =
    if is_semicolon delimiter then record { at = part.Name; current = blank; done = s.done ++ d ∷ [] }
    else record { at = part_after s.at delimiter token; current = d; done = s.done }

unfoldable pub next : ScanState → Delimiter → Token → List ℕ → ScanState
next s delimiter token piece = moved s delimiter token (with_piece s.current token delimiter piece)

abbrev pub judged_as : ScanState → Delimiter → Token → List ℕ → Result ScanState PartitionCause
judged_as s delimiter token piece = unless (fault_of s delimiter token) (next s delimiter token piece)

-- what the piece says is reported by the part that it is
abbrev pub judged : ScanState → Delimiter → List ℕ → Result ScanState PartitionCause
judged s delimiter piece = judged_as s delimiter (token_of s.at piece) piece

abbrev pub passed : ScanState → Bool → Result ScanState PartitionCause
passed s true = Ok s
passed s false = Err BadCharacter

-- a delimiter ends the piece before it; any other byte is white space, printable, or a bad character
abbrev pub judged_at : ScanState → Option Delimiter → Bool → List ℕ → Result ScanState PartitionCause
judged_at s (Some delimiter) allowed piece = judged s delimiter piece
judged_at s None allowed piece = passed s allowed

unfoldable pub after_byte : ScanState → List ℕ → ℕ → Result ScanState PartitionCause
after_byte s piece byte = judged_at s (delimiter_of byte) (is_allowed byte) piece

-- the state after the bytes that follow the text so far, or their first fault
unfoldable pub after : List ℕ → ScanState → List ℕ → Result ScanState (AtLine PartitionCause)
after so_far s [] = Ok s
after so_far s (byte ∷ rest) =
    on_line (line_after so_far) (after_byte s (piece_after so_far) byte) >>= λ t. after (so_far ++ byte ∷ []) t rest

abbrev pub is_name : Part → Bool
is_name part.Name = true
is_name _ = false

-- the text may not end inside a definition; white space begins none
abbrev pub is_inside : Part → List ℕ → Bool
is_inside at piece = not (is_name at) || not (is_empty piece)

abbrev pub at_end : ScanState → List ℕ → Result (List Definition) PartitionCause
at_end s piece = if is_inside s.at piece then Err Unfinished else Ok s.done

-- a text whose comments are blanked
unfoldable pub whole : List ℕ → Result (List Definition) (AtLine PartitionCause)
whole shown = after [] start shown >>= λ s. on_line (line_after shown) (at_end s (piece_after shown))

abbrev pub definitions_of : List ℕ → Result (List Definition) (AtLine PartitionCause)
definitions_of text = whole (without_comments false text)
