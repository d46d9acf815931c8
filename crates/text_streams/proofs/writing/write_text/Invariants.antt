-- What is written so far is the beginning of the text.
use Rattle.std.proofs.Common.{◌≡◌, true, ◌≤◌, ◌-◌, length, take}
use Rattle.std.specs.Io.KnownBytes.{Appends}
use Rattle.text_streams.proofs.writing.write_text.Given as goal

abbrev pub invariant-loop-done : goal.invariant-loop-done
invariant-loop-done g l = record {
  within : l.done ≤ length l.text;
  written : Appends (g.O.Output.contents l.fn.output) (g.O.Output.contents l.output) (take l.done l.text);
  sure : g.O.Output.is_sure l.fn.output ≡ true → g.O.Output.is_sure l.output ≡ true;
}

abbrev pub decreases-loop-done : goal.decreases-loop-done
decreases-loop-done g l = length l.text - l.done
