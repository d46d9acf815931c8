-- A line without its end, and a word in two parts.
use Rattle.std.specs.Prelude.{ℕ, Bool, ◌-◌, List, length, take, Option, Some, None, if◌then◌else◌}
use Rattle.std.specs.List.{list_any, before_first, after_first, suffix_len}
use Rattle.std.specs.Char.{is_ascii_whitespace}
use Rattle.std.specs.Borrow.{Bor}

-- a line without its LF, a CR before it, and the blanks before these
abbrev pub trimmed : List ℕ → List ℕ
trimmed line = take (length line - suffix_len is_ascii_whitespace line) line

-- what stands before and behind the first byte that passes the test
abbrev pub cut_at : (ℕ → Bool) → List ℕ → Option (List ℕ × List ℕ)
cut_at test text = if list_any test text then Some (before_first test text, after_first test text) else None

-- both parts, behind their references
abbrev pub both : Bor (List ℕ) × Bor (List ℕ) → List ℕ × List ℕ
both parts = (parts.0.now, parts.1.now)
