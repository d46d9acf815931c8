-- The line so far has no LF; it and what waits are what was read.
use Rattle.std.proofs.Common.{◌≡◌, ◌≤◌, ◌+◌, true, false, length}
use Rattle.std.specs.Io.KnownBytes.{Consumes, prepend_known}
use Rattle.text_streams.proofs.LineLemmas.{has_end}
use Rattle.text_streams.proofs.reading_lines.read_line.Given as goal

abbrev pub invariant-loop-turn : goal.invariant-loop-turn
invariant-loop-turn g l = record {
  read : Consumes (prepend_known l.fn.waiting.items (g.R.Reader.remaining l.fn.reader)) (prepend_known l.waiting.items (g.R.Reader.remaining l.reader)) l.line.items;
  none : has_end l.line.items ≡ false;
  sure : g.R.Reader.is_sure l.fn.reader ≡ true → g.R.Reader.is_sure l.reader ≡ true;
  grows : g.R.Reader.is_sure l.fn.reader ≡ true → l._turn ≤ length l.line.items + length l.waiting.items;
}
