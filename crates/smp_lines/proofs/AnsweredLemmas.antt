-- Lines that are answered one after the other.
use Rattle.std.proofs.Common.{ℕ, ◌≡◌, ◌≤◌, ◌+◌, ◌∙◌, ◌==◌, Bool, true, false, ap, refl, subst, sym, arith, append_assoc, append-nil, List, [], ◌∷◌, ◌++◌, length, Option, Some, None, Result, Err}
use Rattle.std.specs.Prelude.{IfSome}
use Rattle.std.specs.Io.BufRead.{take_through}
use Rattle.std.specs.Io.KnownBytes.{Appends, Consumes, IsAtEnd}
use Rattle.smp_lines.specs.SmpLines.{Answered, EndsSo, OfBytes, after, answered, answered_by, behind, output_of, smp_in}
use Rattle.smp_lines.specs.Steps.{IsAnswered, TakesLine}
use Rattle.smp_lines.specs.Stop.{stop_of}
use Rattle.text_streams.specs.declared.reading_lines.LineStop.{LineStop}
use Rattle.text_streams.specs.declared.reading_lines.LineStop.TheVariants as line
use Rattle.smp_lines.specs.declared.stop.SmpStop.{SmpStop}
use Rattle.smp_lines.specs.declared.stop.SmpStop.TheVariants.{Line, NoMemory, Read, Write}
use Rattle.smp_wire.specs.FabricState.{FabricState}
use Rattle.text_streams.proofs.KnownBytesLemmas.{begins_with, part_behind, write_more}
use Rattle.text_streams.proofs.LineLemmas.{false_is_not_true, has_end}
use Rattle.text_streams.specs.Writing.{AppendsPart}
use Rattle.text_words.specs.Lines.{lines}

-- ---- the first line of a text
-- behind its LF nothing of it comes
nothing_behind : (byte : ℕ) (line : List ℕ) → (byte == 10) ≡ true → byte ∷ line ≡ take_through 10 (byte ∷ line) → line ≡ []
nothing_behind byte line is whole = let one : byte ∷ line ≡ byte ∷ [] = rw is at whole in cc

whole_behind : (byte : ℕ) (line : List ℕ) → (byte == 10) ≡ false → byte ∷ line ≡ take_through 10 (byte ∷ line) → line ≡ take_through 10 line
whole_behind byte line is whole = let more : byte ∷ line ≡ byte ∷ take_through 10 line = rw is at whole in cc

pub first_line : (byte : ℕ) (line rest : List ℕ) → byte ∷ line ≡ take_through 10 (byte ∷ line) → (has_end (byte ∷ line) ≡ false → rest ≡ [])
    → lines (byte ∷ (line ++ rest)) ≡ (byte ∷ line) ∷ lines rest
first_line byte [] rest whole last = by (byte == 10) refl
  where
    by : (test : Bool) → (byte == 10) ≡ test → lines (byte ∷ rest) ≡ (byte ∷ []) ∷ lines rest
    by true is = rw is refl
    by false is = let none : rest ≡ [] = last (rw is refl) in rw (none, is) refl
first_line byte (next ∷ line) rest whole last = by (byte == 10) refl (λ is. first_line next line rest (whole_behind byte (next ∷ line) is whole) (λ none. last (rw is none)))
  where
    by : (test : Bool) → (byte == 10) ≡ test
        → ((byte == 10) ≡ false → lines (next ∷ (line ++ rest)) ≡ (next ∷ line) ∷ lines rest)
        → lines (byte ∷ (next ∷ (line ++ rest))) ≡ (byte ∷ (next ∷ line)) ∷ lines rest
    by true is more = let none = nothing_behind byte (next ∷ line) is whole in absurd cc
    by false is more = rw (is, more is) refl

-- ---- and its answer
pub answers_line : (number : ℕ) (fabric : FabricState) (line rest : List ℕ) → line ≡ take_through 10 line → (has_end line ≡ false → rest ≡ [])
    → answered number fabric (lines (line ++ rest))
    ≡ answered_by number fabric (smp_in line) (λ smp. answered (number + 1) (after fabric smp) (lines rest))
unfolding answered
answers_line number fabric [] rest whole last = let none : rest ≡ [] = last refl in rw none refl
answers_line number fabric (byte ∷ line) rest whole last = rw (first_line byte line rest whole last) refl

pub behind_both : (first second : List ℕ) (all : Answered) → behind first (behind second all) ≡ behind (first ++ second) all
behind_both first second all = rw (append_assoc first second all.output) refl

-- ---- bytes that are left
pub record Rest (first now : Option (List ℕ)) (read : List ℕ) : Type 0 where
  pub rest : List ℕ
  pub known : IfSome first (λ all. read ++ rest ≡ all)
  pub last : IsAtEnd now → rest ≡ []

pub rest_of : (first now : Option (List ℕ)) (read : List ℕ) → Consumes first now read → Rest first now read
rest_of None None read consumed = record { rest = []; known = tt; last = λ end. refl }
rest_of None (Some ys) read consumed = record { rest = []; known = tt; last = λ end. refl }
rest_of (Some xs) None read consumed = absurd consumed
rest_of (Some xs) (Some ys) read consumed = record { rest = ys; known = sym consumed; last = λ end. end }

pub ended_long : (line : List ℕ) → has_end line ≡ true → 1 ≤ length line
ended_long [] ended = absurd (false_is_not_true ended)
ended_long (byte ∷ line) ended = omega arith

-- a line that was not read cuts short what is printed
pub unread_cuts : (X : Type 0) (stop : LineStop) (all : Answered) (old new : Option (List ℕ)) → AppendsPart old new all.output
    → let answer : Result X SmpStop = Err (stop_of stop) in EndsSo all answer old new
unread_cuts X line.NoMemory all old new part = part
unread_cuts X line.Read all old new part = part

-- ---- so far
abbrev pub IsSoFar : (was : FabricState) → (read output : List ℕ) → (number : ℕ) → (now : FabricState) → Type 0
IsSoFar was read output number now = (rest : List ℕ) → answered 1 was (lines (read ++ rest)) ≡ behind output (answered number now (lines rest))

module _ (was now : FabricState) (read output : List ℕ) (number : ℕ) (so_far : IsSoFar was read output number now) where
  -- a stop before the next line
  pub stops_before : (X : Type 0) (stop : SmpStop) (first left old new : Option (List ℕ)) → ((all : Answered) → AppendsPart old new all.output → let answer : Result X SmpStop = Err stop in EndsSo all answer old new)
      → Consumes first left read → Appends old new output → let answer : Result X SmpStop = Err stop in OfBytes first (λ bytes. EndsSo (answered 1 was (lines bytes)) answer old new)
  stops_before X stop first left old new cut consumed written =
      let more = rest_of first left read consumed in (
        read ++ more.rest,
        more.known,
        cut _ (rw (so_far more.rest) (begins_with _ output (answered number now (lines more.rest)).output old new refl written)),
      )

  module _ (line : List ℕ) (whole : line ≡ take_through 10 line) where
    -- the answers from this line on
    pub from_line : (rest : List ℕ) → (has_end line ≡ false → rest ≡ [])
        → answered 1 was (lines ((read ++ line) ++ rest))
        ≡ behind output (answered_by number now (smp_in line) (λ smp. answered (number + 1) (after now smp) (lines rest)))
    from_line rest last =
        ap (λ (s : List ℕ). answered 1 was (lines s)) (append_assoc read line rest) ∙ so_far (line ++ rest)
        ∙ ap (behind output) (answers_line number now line rest whole last)

    -- a stop at this line
    module _ (first here old middle new : Option (List ℕ)) (consumed : Consumes first here (read ++ line)) (end : has_end line ≡ false → IsAtEnd here)
        (written : Appends old middle output) (left : FabricState) where
      pub stops_at : (X Y : Type 0) (fault : SmpStop) (text : List ℕ) → text ≡ line → let given : Result X SmpStop = Err fault in TakesLine number text now given left middle new
          → let answer : Result Y SmpStop = Err fault in OfBytes first (λ bytes. EndsSo (answered 1 was (lines bytes)) answer old new)
      stops_at X Y fault text same takes =
          let stopped : Result X SmpStop = Err fault in
          let answer : Result Y SmpStop = Err fault in
          let more = rest_of first here (read ++ line) consumed in
          let all = from_line more.rest (λ none. more.last (end none)) in
          let taken = subst (λ (given : List ℕ). TakesLine number given now stopped left middle new) same takes in
          ((read ++ line) ++ more.rest, more.known, subst (λ (made : Answered). EndsSo made answer old new) (sym all) (by more.rest fault taken))
        where
          given : List ℕ → Answered
          given rest = answered_by number now (smp_in line) (λ smp. answered (number + 1) (after now smp) (lines rest))

          some : (rest : List ℕ) (smp : Option (List ℕ)) → smp_in line ≡ Some smp → AppendsPart middle new (output_of now smp)
              → AppendsPart old new (behind output (given rest)).output
          some rest smp is part =
              rw is (part_behind output (output_of now smp) (answered (number + 1) (after now smp) (lines rest)).output old middle new written part)

          by : (rest : List ℕ) (stop : SmpStop) → let answer : Result X SmpStop = Err stop in TakesLine number line now answer left middle new
              → let ends : Result Y SmpStop = Err stop in EndsSo (behind output (given rest)) ends old new
          by rest (Line at) takes = rw takes.1 (ap Some (sym takes.0), write_more old middle new output [] written takes.2)
          by rest NoMemory takes = some rest takes.smp takes.is takes.written
          by rest Write takes = some rest takes.smp takes.is takes.written
          by rest Read takes = absurd takes

      -- the last line
      pub ends_at : IsAnswered line now left middle new → IsAtEnd here
          → OfBytes first (λ bytes. ((answered 1 was (lines bytes)).faulty ≡ None) × Appends old new (answered 1 was (lines bytes)).output)
      unfolding answered
      ends_at takes is_end =
          let more = rest_of first here (read ++ line) consumed in
          let none = more.last is_end in
          let all = from_line more.rest (λ unended. none) in
          let text = output_of now takes.smp in
          let both : Appends old new (output ++ (text ++ [])) = rw (append-nil text) (write_more old middle new output text written takes.written) in
          ((read ++ line) ++ more.rest, more.known, rw (all, takes.is, none) (refl, both))

    -- a line that is answered, and more behind it
    pub goes_on : (left : FabricState) (middle new : Option (List ℕ)) → has_end line ≡ true → (takes : IsAnswered line now left middle new)
        → IsSoFar was (read ++ line) (output ++ output_of now takes.smp) (number + 1) left
    goes_on left middle new ended takes rest =
        let all = from_line rest (λ none. absurd (false_is_not_true (sym none ∙ ended))) in
        rw takes.left_so
        (all
        ∙ ap (λ given. behind output (answered_by number now given (λ smp. answered (number + 1) (after now smp) (lines rest)))) takes.is
        ∙ behind_both output (output_of now takes.smp) (answered (number + 1) (after now takes.smp) (lines rest)))
