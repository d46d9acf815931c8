-- What was taken so far is carried out, and what is left of the piece is behind it.
use Rattle.std.proofs.Common.{◌≡◌, ◌+◌, ◌++◌, ◌≤◌, true, length, List, ℕ}
use Rattle.text_words.specs.Lines.{lines}
use Rattle.subnet_core.specs.StreamSteps.{begun_by_parts, lines_of_parts}
use Rattle.subnet_core.specs.StreamSteps.{Carries}
use Rattle.subnet_core.proofs.stream.Stream.take_piece.Given as goal

abbrev pub invariant-loop-part : goal.invariant-loop-part
invariant-loop-part g l = record {
  done : List (List ℕ);
  carries : Carries done l.fn.self l.self (g.W.Output.contents l.fn.writer) (g.W.Output.contents l.writer);
  cut : lines_of_parts l.fn.begun.items (lines l.piece) ≡ done ++ lines_of_parts l.begun.items l.part-iterator;
  begun : begun_by_parts l.fn.begun.items (lines l.piece) ≡ begun_by_parts l.begun.items l.part-iterator;
  few : l.self.taken + length l.part-iterator ≤ l.fn.self.taken + length l.piece;
  stays : g.W.Output.is_sure l.fn.writer ≡ true → g.W.Output.is_sure l.writer ≡ true;
}
