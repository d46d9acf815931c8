-- What is read so far, and what is left, are what there was; where no read fails, each read so far gave
-- some bytes.
use Rattle.std.proofs.Common.{◌≡◌, ◌<◌, ◌≤◌, true, length}
use Rattle.std.specs.Io.KnownBytes.{Consumes}
use Rattle.text_streams.proofs.reading.read_to_end_by.Given as goal

abbrev pub invariant-loop-turn : goal.invariant-loop-turn
invariant-loop-turn g l = record {
  piece : 0 < length l.piece;
  read : Consumes (g.R.Reader.remaining l.fn.reader) (g.R.Reader.remaining l.reader) l.bytes.items;
  sure : g.R.Reader.is_sure l.fn.reader ≡ true → g.R.Reader.is_sure l.reader ≡ true;
  grows : g.R.Reader.is_sure l.fn.reader ≡ true → l._turn ≤ length l.bytes.items;
}
