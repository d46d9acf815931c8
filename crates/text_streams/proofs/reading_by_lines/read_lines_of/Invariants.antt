-- What was read makes, with whatever is behind it, what is made so far with the bytes that wait and the same behind them; where no
-- read fails, each read so far gave some bytes.
use Rattle.std.proofs.Common.{◌≡◌, true}
use Rattle.text_streams.proofs.TakenLemmas.{IsTaken}
use Rattle.text_streams.proofs.reading_by_lines.read_lines_of.Given as goal

abbrev pub invariant-loop-turn : goal.invariant-loop-turn
invariant-loop-turn g l = record {
  taken : IsTaken (g.R.Reader.is_sure l.fn.reader ≡ true) g.L.LineReader.after_line l.fn.nothing (g.R.Reader.remaining l.fn.reader) (g.R.Reader.remaining l.reader) l.so_far l.number l.waiting.items l._turn;
  sure : g.R.Reader.is_sure l.fn.reader ≡ true → g.R.Reader.is_sure l.reader ≡ true;
}
