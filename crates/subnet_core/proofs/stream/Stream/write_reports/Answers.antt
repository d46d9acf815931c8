use Rattle.std.proofs.Common.{◌∙◌, ◌++◌, ◌+◌, ap, sym, append_assoc, drop, map}
use Rattle.std.proofs.lemmas.Result.{err_from_is_err_and}
use Rattle.subnet_fabric.specs.Sends.{event_of}
use Rattle.subnet_core.specs.EventLines.{line_text, report_text}
use Rattle.subnet_core.proofs.PutLemmas.{puts_on}
use Rattle.subnet_core.proofs.ReportLemmas.{more_reported, reports_stop}
use Rattle.subnet_core.proofs.stream.Stream.write_reports.Goals as goal

pub loop-event-preserved : goal.loop-event-preserved
loop-event-preserved g c =
    let before = c.loop-event.invariant in
    let reported = c.in_ok-report_one.ensures.reports in
    let ports = c.args.self.now.subnet.inventory.configuration.ports in
    let event = c.event-item.result in
    let line = line_text ports (event_of event) in
    let rest = report_text ports (map event_of (drop (c.loop-event.event-index + 1) c.args.events.now)) in
    record {
      reported = before.reported ++ line;
      puts = puts_on _ _ _ _ _ _ _ _ before.puts (rw before.subnet at reported.0);
      cut = more_reported ports c.args.events.now c.loop-event.event-index event c.loop-event-test.true c.event-item.is _ before.reported before.cut ∙ sym (append_assoc before.reported line rest);
      subnet = reported.1 ∙ before.subnet;
      taken = reported.2 ∙ before.taken;
      stays = λ sure. c.report_one.ensures.stays (before.stays sure);
    }

pub returns-in_err-report_one-clause-reports : goal.returns-in_err-report_one-clause-reports
returns-in_err-report_one-clause-reports g c =
    let before = c.loop-event.invariant in
    let p = err_from_is_err_and c.from_residual.result c.from_residual.ensures.1 in
    let ports = c.args.self.now.subnet.inventory.configuration.ports in
    let event = c.event-item.result in
    let rest = report_text ports (map event_of (drop (c.loop-event.event-index + 1) c.args.events.now)) in
    rw (p.1, p.2)
    (reports_stop (Unit {0}) (Unit {0}) c.in_err-report_one.field-0.0 _ before.reported (line_text ports (event_of event)) _ rest c.args.self.now c.loop-event.self c.report_one.new.self _ _ _
    (more_reported ports c.args.events.now c.loop-event.event-index event c.loop-event-test.true c.event-item.is _ before.reported before.cut)
    (ap (λ subnet. line_text subnet.inventory.configuration.ports (event_of event)) before.subnet) before.puts c.in_err-report_one.ensures.reports)
