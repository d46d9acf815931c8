-- Lines of a text, and the words of a line.
use Rattle.std.specs.Prelude.{ℕ, Bool, not, ◌==◌, ◌&&◌, ◌||◌, nat_lt, nat_le, if◌then◌else◌, List, [], ◌∷◌, length, filter, take, ◌-◌, slice_index, Option, Some, None, option_map}
use Rattle.std.specs.List.{slice_split, onto_first, before_first, list_any}

-- LF ends a line
abbrev pub is_line_end : ℕ → Bool
is_line_end byte = byte == 10

-- the lines of a text, each with the LF that ends it, which the last may lack
abbrev pub lines : List ℕ → List (List ℕ)
lines [] = []
lines (byte ∷ rest) = if is_line_end byte then (byte ∷ []) ∷ lines rest else onto_first byte (lines rest)

-- the last byte is this one
abbrev pub ends_in : ℕ → List ℕ → Bool
ends_in byte text = nat_lt 0 (length text) && (slice_index text (length text - 1) == byte)

-- the text without its last byte
abbrev pub without_last : List ℕ → List ℕ
without_last text = take (length text - 1) text

-- a line without the LF that ends it
abbrev pub body : List ℕ → List ℕ
body line = if ends_in 10 line then without_last line else line

-- a line without its LF and its comment: `#` begins a comment
abbrev pub uncommented : List ℕ → List ℕ
uncommented line = before_first (λ byte. byte == 35) (body line)

-- what counts of a line: a CR that a comment or the LF follows is white space, and is left out too
abbrev pub content : List ℕ → List ℕ
content line =
    if ends_in 13 (uncommented line) && nat_lt (length (uncommented line)) (length line)
    then without_last (uncommented line)
    else uncommented line

-- a blank or a tab
abbrev pub is_blank : ℕ → Bool
is_blank byte = (byte == 32) || (byte == 9)

-- what may stand outside comments: printable ASCII and the tab
abbrev pub is_plain : ℕ → Bool
is_plain byte = (nat_le 32 byte && nat_le byte 126) || (byte == 9)

-- what may not stand in a line: an LF before its end, and outside the comment any byte that is not plain
abbrev pub has_bad_character : List ℕ → Bool
has_bad_character line = list_any is_line_end (body line) || list_any (λ byte. not (is_plain byte)) (content line)

-- the words of a text that is cut at the bytes that pass the test
abbrev pub words_between : (ℕ → Bool) → List ℕ → List (List ℕ)
words_between is_white text = filter (λ word. not (length word == 0)) (slice_split is_white text)

-- what counts of a line, unless a byte stands in it that may not
abbrev pub plain_content : List ℕ → Option (List ℕ)
plain_content line = if has_bad_character line then None else Some (content line)

-- the words of a line, likewise
abbrev pub words_of : List ℕ → Option (List (List ℕ))
words_of line = option_map (words_between is_blank) (plain_content line)
