use Rattle.std.proofs.Common.{◌≡◌, map, take}
use Rattle.subnet_fabric.specs.Sends.{event_of}
use Rattle.subnet_core.specs.EventLines.{report_text}
use Rattle.subnet_core.proofs.event_lines.report_text.Given as goal

abbrev pub invariant-loop-event : goal.invariant-loop-event
invariant-loop-event l = l.text.items ≡ report_text l.ports (map event_of (take l.event-index l.events))
