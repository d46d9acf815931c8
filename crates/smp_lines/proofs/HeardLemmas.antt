-- Lines that are read until one says what a reply is.
use Rattle.std.proofs.Common.{ℕ, ◌≡◌, ◌∙◌, ◌+◌, true, false, ap, refl, sym, append_assoc, append-nil, List, [], ◌∷◌, ◌++◌, length, Option, Some}
use Rattle.std.specs.Io.BufRead.{take_through}
use Rattle.std.specs.Io.KnownBytes.{Consumes, IsAtEnd}
use Rattle.std.specs.List.{All}
use Rattle.smp_lines.proofs.AnsweredLemmas.{first_line}
use Rattle.smp_lines.specs.LineWire.{Reads, said_in}
use Rattle.smp_lines.specs.declared.line_wire.Heard.{Heard}
use Rattle.smp_lines.specs.declared.line_wire.Heard.TheVariants.{Nothing}
use Rattle.text_streams.proofs.LineLemmas.{false_is_not_true, has_end}
use Rattle.text_words.specs.Lines.{lines}

-- these lines were read, and whatever follows them is more lines
abbrev pub ArePassed : (read : List ℕ) (passed : List (List ℕ)) → Type 0
ArePassed read passed = (rest : List ℕ) → lines (read ++ rest) ≡ passed ++ lines rest

pub none_passed : ArePassed [] []
none_passed rest = refl

-- a line that is not empty, and what follows it
pub line_first : (line rest : List ℕ) → line ≡ take_through 10 line → (has_end line ≡ false → rest ≡ []) → (line ≡ [] → ⊥)
    → lines (line ++ rest) ≡ line ∷ lines rest
line_first [] rest whole last some = absurd (some refl)
line_first (byte ∷ line) rest whole last some = first_line byte line rest whole last

with_line : (read line rest : List ℕ) (passed : List (List ℕ)) → ArePassed read passed → lines (line ++ rest) ≡ line ∷ lines rest
    → lines ((read ++ line) ++ rest) ≡ (passed ++ line ∷ []) ++ lines rest
with_line read line rest passed are first =
    ap lines (append_assoc read line rest) ∙ are (line ++ rest) ∙ ap (λ (more : List (List ℕ)). passed ++ more) first
    ∙ sym (append_assoc passed (line ∷ []) (lines rest))

pub passed_more : (read line : List ℕ) (passed : List (List ℕ)) → ArePassed read passed → line ≡ take_through 10 line → has_end line ≡ true
    → ArePassed (read ++ line) (passed ++ line ∷ [])
passed_more read line passed are whole ended rest =
    with_line read line rest passed are
    (line_first line rest whole (λ none. absurd (false_is_not_true (sym none ∙ ended))) (some line ended))
  where
    some : (line : List ℕ) → has_end line ≡ true → line ≡ [] → ⊥
    some [] ended none = false_is_not_true ended
    some (byte ∷ line) ended none = cc

-- an empty line says nothing
pub says_some : (line : List ℕ) (said : Option Heard) → said_in line ≡ said → (said ≡ Some Nothing → ⊥) → line ≡ [] → ⊥
says_some [] said is other none = other (sym is)
says_some (byte ∷ line) said is other none = cc

-- the last line is read
pub reads_last : (read line : List ℕ) (passed : List (List ℕ)) (said : Option Heard) (first here : Option (List ℕ)) (count : ℕ)
    → ArePassed read passed → All (λ (line : List ℕ). said_in line ≡ Some Nothing) passed → Consumes first here (read ++ line)
    → line ≡ take_through 10 line → (has_end line ≡ false → IsAtEnd here) → said_in line ≡ said → (said ≡ Some Nothing → ⊥)
    → Reads said first here count ((count + length passed) + 1)
reads_last read line passed said first here count are nothing consumed whole last is other =
    record {
      passed = passed;
      last = line;
      read = read ++ line;
      consumed = consumed;
      lines_are =
          ap lines (sym (append-nil (read ++ line)))
          ∙ with_line read line [] passed are (line_first line [] whole (λ none. refl) (says_some line said is other))
          ∙ append-nil (passed ++ line ∷ []);
      nothing = nothing;
      said_so = is;
      whole = last;
      counted = refl;
    }
