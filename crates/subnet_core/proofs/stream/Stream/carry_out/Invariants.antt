-- What was read so far is carried out, except the line that is begun.
use Rattle.std.proofs.Common.{◌≡◌, ◌≤◌, ◌*◌, true, length, List, ℕ, []}
use Rattle.std.specs.Io.KnownBytes.{Consumes}
use Rattle.subnet_core.specs.Stream.{report_so_far}
use Rattle.subnet_core.specs.StreamSteps.{Carries, begun_behind, lines_behind}
use Rattle.text_streams.specs.Reading.{AreInTime}
use Rattle.subnet_core.proofs.stream.Stream.carry_out.Given as goal

abbrev pub invariant-loop-turn : goal.invariant-loop-turn
invariant-loop-turn g l = record {
  read : List ℕ;
  consumed : Consumes (g.R.Reader.remaining l.fn.reader) (g.R.Reader.remaining l.reader) read;
  carries : Carries (lines_behind [] read) l.fn.self l.self (g.W.Output.contents l.fn.writer) (g.W.Output.contents l.writer);
  begun : l.begun.items ≡ begun_behind [] read;
  few : l.self.taken ≤ 256 * l._turn;
  reads : g.R.Reader.is_sure l.fn.reader ≡ true → g.R.Reader.is_sure l.reader ≡ true;
  grows : g.R.Reader.is_sure l.fn.reader ≡ true → l._turn ≤ length read;
  waits : g.R.Reader.waits l.reader ≡ g.R.Reader.waits l.fn.reader;
  in_time : g.R.Reader.waits l.fn.reader ≡ true → AreInTime (report_so_far l.fn.self.subnet.inventory) (g.R.Reader.remaining l.fn.reader)
      (g.W.Output.contents l.fn.writer) (g.R.Reader.moments l.fn.reader) (g.R.Reader.moments l.reader);
  stays : g.W.Output.is_sure l.fn.writer ≡ true → g.W.Output.is_sure l.writer ≡ true;
}
