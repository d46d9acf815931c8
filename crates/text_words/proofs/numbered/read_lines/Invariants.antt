use Rattle.std.specs.Prelude.{length}
use Rattle.step_results.proofs.LineLemmas.{IsLeft}
use Rattle.step_results.specs.AtLine.{after_lines}
use Rattle.text_words.specs.Lines.{lines}
use Rattle.text_words.proofs.numbered.read_lines.Given as goal

abbrev pub invariant-loop-line : goal.invariant-loop-line
invariant-loop-line g l =
    IsLeft g.R.LineReader.after_line l.number l.so_far l.line-iterator (length l.fn.text) (after_lines g.R.LineReader.after_line 1 l.fn.nothing (lines l.fn.text))
