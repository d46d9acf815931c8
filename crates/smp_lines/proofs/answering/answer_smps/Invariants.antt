-- What was read so far is answered so far.
use Rattle.std.proofs.Common.{◌≡◌, ◌≤◌, ◌+◌, true, length, List, ℕ}
use Rattle.std.specs.Io.KnownBytes.{Appends, Consumes, prepend_known}
use Rattle.smp_lines.proofs.AnsweredLemmas.{IsSoFar}
use Rattle.smp_lines.proofs.answering.answer_smps.Given as goal

abbrev pub invariant-loop-number : goal.invariant-loop-number
invariant-loop-number g l = record {
  read : List ℕ;
  output : List ℕ;
  consumed : Consumes (g.R.Reader.remaining l.fn.reader) (prepend_known l.waiting.items (g.R.Reader.remaining l.reader)) read;
  so_far : IsSoFar l.fn.fabric read output l.number l.fabric;
  written : Appends (g.W.Output.contents l.fn.writer) (g.W.Output.contents l.writer) output;
  reads : g.R.Reader.is_sure l.fn.reader ≡ true → g.R.Reader.is_sure l.reader ≡ true;
  writes : g.W.Output.is_sure l.fn.writer ≡ true → g.W.Output.is_sure l.writer ≡ true;
  grows : l.number ≤ length read + 1;
}
