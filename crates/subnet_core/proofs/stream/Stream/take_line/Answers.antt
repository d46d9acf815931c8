use Rattle.std.proofs.Common.{◌∙◌, ap, map, refl, Ok}
use Rattle.subnet_fabric.specs.Sends.{event_of}
use Rattle.std.proofs.lemmas.Result.{err_from_is_err_and}
use Rattle.subnet_core.proofs.LineLemmas.{quiet_takes, said_takes, unparsed_takes}
use Rattle.subnet_core.proofs.PutLemmas.{loses_reported}
use Rattle.subnet_core.specs.EventLines.{report_text}
use Rattle.subnet_core.proofs.stream.Stream.take_line.Goals as goal

pub returns-in_err-command-clause-takes : goal.returns-in_err-command-clause-takes
returns-in_err-command-clause-takes g c =
    let p = err_from_is_err_and c.from_residual.result c.from_residual.ensures.1 in
    rw (p.1, p.2, ← c.self.view_is)
    (unparsed_takes _ c.args.line.now _ (Unit {0}) _ c.in_err-command.field-0.0 refl c.in_err-command.ensures.exact)

pub returns-in_err-events-in-Some-clause-takes : goal.returns-in_err-events-in-Some-clause-takes
returns-in_err-events-in-Some-clause-takes g c =
    let p = err_from_is_err_and c.from_residual-in_err-events-in-Some.result c.from_residual-in_err-events-in-Some.ensures.1 in
    rw (p.1, p.2, ← c.self.view_is) (loses_reported _ _ _)

pub returns-in_ok-events-in-Some-clause-takes : goal.returns-in_ok-events-in-Some-clause-takes
returns-in_ok-events-in-Some-clause-takes g c =
    let parsed = c.in_ok-command.ensures.exact ∙ ap Ok c.in-Some.is in
    let sender = rw c.in-Some.is at c.in_ok-command.ensures.sender in
    let after = c.in_ok-events-in-Some.ensures in
    let next = after.next in
    rw (← c.self.view_is)
    (said_takes _ c.args.line.now (g.W.Output.contents c.args.writer.now) c.in-Some.command _ refl parsed c.step.new.self next.inventory (next.administration sender) (Unit {0}) c.write_reports.new.self _ _ c.write_reports.result
    (report_text c.step.new.self.inventory.configuration.ports (map event_of c.deref.result.now)) (rw (next.inventory, c.deref.ensures.value, after.events sender) refl) c.write_reports.ensures.reports)

pub returns-in-None-clause-takes : goal.returns-in-None-clause-takes
returns-in-None-clause-takes g c =
    rw (← c.self.view_is) (quiet_takes _ c.args.line.now _ _ refl (c.in_ok-command.ensures.exact ∙ ap Ok c.in-None.is))
