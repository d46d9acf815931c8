-- Comments, white space, delimiters, and the piece and the line of a place in a text.
use Rattle.std.specs.Prelude.{ℕ, ◌+◌, Bool, true, false, not, ◌==◌, ◌&&◌, ◌||◌, nat_le, is_some, if◌then◌else◌, List, [], ◌∷◌, ◌++◌, reverse}
use Rattle.std.specs.Prelude.{take_while, count_by, flat_map, Option, Some, None}
use Rattle.text_words.specs.Lines.{is_line_end, words_between}
use Rattle.partition_file.specs.declared.piece.Delimiter.{Delimiter}
use Rattle.partition_file.specs.declared.piece.Delimiter.TheVariants.{Equals, Comma, Colon, Semicolon}

-- `#` begins a comment, which lasts to the line's end and has any bytes
abbrev pub is_commented : Bool → ℕ → Bool
is_commented inside byte = not (is_line_end byte) && (inside || (byte == 35))

abbrev pub blanked : Bool → ℕ → ℕ
blanked hidden byte = if hidden then 32 else byte

-- a text with its comments blanked; every other byte, and every line's end, stays in its place
unfoldable pub without_comments : Bool → List ℕ → List ℕ
without_comments inside [] = []
without_comments inside (byte ∷ rest) = blanked (is_commented inside byte) byte ∷ without_comments (is_commented inside byte) rest

-- blank, tab, LF and CR
abbrev pub is_white : ℕ → Bool
is_white byte = (byte == 32) || ((byte == 9) || ((byte == 10) || (byte == 13)))

-- printable ASCII and white space
abbrev pub is_allowed : ℕ → Bool
is_allowed byte = (nat_le 32 byte && nat_le byte 126) || is_white byte

abbrev pub delimiter_of : ℕ → Option Delimiter
delimiter_of byte =
    if byte == 61 then Some Equals
    else (if byte == 44 then Some Comma
    else (if byte == 58 then Some Colon
    else (if byte == 59 then Some Semicolon
    else None)))

abbrev pub is_delimiter : ℕ → Bool
is_delimiter byte = is_some (delimiter_of byte)

abbrev pub is_equals : Delimiter → Bool
is_equals Equals = true
is_equals Comma = false
is_equals Colon = false
is_equals Semicolon = false

abbrev pub is_colon : Delimiter → Bool
is_colon Equals = false
is_colon Comma = false
is_colon Colon = true
is_colon Semicolon = false

abbrev pub is_semicolon : Delimiter → Bool
is_semicolon Equals = false
is_semicolon Comma = false
is_semicolon Colon = false
is_semicolon Semicolon = true

-- words with one blank between each two
abbrev pub spaced : List (List ℕ) → List ℕ
spaced [] = []
spaced (first ∷ rest) = first ++ flat_map (λ word. 32 ∷ word) rest

-- a piece: no white space at its ends, and each run of it inside is one blank
abbrev pub folded : List ℕ → List ℕ
folded raw = spaced (words_between is_white raw)

-- what stands after the last byte that passes
abbrev pub since : (ℕ → Bool) → List ℕ → List ℕ
since passes text = reverse (take_while (λ byte. not (passes byte)) (reverse text))

-- the piece that is open after this text, and the line that its next byte is on
abbrev pub piece_after : List ℕ → List ℕ
piece_after text = folded (since is_delimiter text)

abbrev pub line_after : List ℕ → ℕ
line_after text = 1 + count_by is_line_end text
