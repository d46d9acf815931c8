-- What is left makes, with whatever is behind it, what all makes.
use Rattle.std.proofs.Common.{List, ℕ, ◌≤◌, ◌+◌, ◌++◌, length}
use Rattle.step_results.proofs.LineLemmas.{IsLeft}
use Rattle.step_results.specs.AtLine.{after_lines}
use Rattle.text_words.specs.Lines.{lines}
use Rattle.text_streams.proofs.reading_by_lines.take_lines.Given as goal

abbrev pub invariant-loop-line : goal.invariant-loop-line
invariant-loop-line g l = record {
  count : l.now + length l.line-iterator ≤ l.fn.number + length l.fn.text;
  left : (rest : List (List ℕ)) → IsLeft g.L.LineReader.after_line l.now l.so_far (l.line-iterator ++ rest) (l.fn.number + length l.fn.text + length rest)
      (after_lines g.L.LineReader.after_line (l.fn.number + 1) l.fn.so_far (lines l.fn.text ++ rest));
}
