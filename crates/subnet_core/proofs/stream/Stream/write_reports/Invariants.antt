-- The events so far are reported, and the others are left.
use Rattle.std.proofs.Common.{ℕ, List, ◌≡◌, ◌++◌, true, map, drop}
use Rattle.subnet_fabric.specs.Sends.{event_of}
use Rattle.subnet_core.specs.EventLines.{report_text}
use Rattle.subnet_core.specs.StreamSteps.{Puts}
use Rattle.subnet_core.proofs.stream.Stream.write_reports.Given as goal

abbrev pub invariant-loop-event : goal.invariant-loop-event
invariant-loop-event g l = record {
  reported : List ℕ;
  puts : Puts reported l.fn.self.text l.self.text (g.W.Output.contents l.fn.writer) (g.W.Output.contents l.writer);
  cut : report_text l.fn.self.subnet.inventory.configuration.ports (map event_of l.events)
      ≡ reported ++ report_text l.fn.self.subnet.inventory.configuration.ports (map event_of (drop l.event-index l.events));
  subnet : l.self.subnet ≡ l.fn.self.subnet;
  taken : l.self.taken ≡ l.fn.self.taken;
  stays : g.W.Output.is_sure l.fn.writer ≡ true → g.W.Output.is_sure l.writer ≡ true;
}
