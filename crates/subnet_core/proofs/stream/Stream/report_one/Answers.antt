use Rattle.std.proofs.Common.{◌∙◌, ap, refl, []}
use Rattle.std.proofs.lemmas.Result.{err_from_is_err_and}
use Rattle.subnet_core.proofs.ReportLemmas.{loses_line, ok_holds, puts_line, reports_no_more}
use Rattle.subnet_core.proofs.stream.Stream.report_one.Goals as goal

pub returns-in_err-make_room-clause-reports : goal.returns-in_err-make_room-clause-reports
returns-in_err-make_room-clause-reports g c =
    let p = err_from_is_err_and c.from_residual.result c.from_residual.ensures.1 in
    rw (p.1, p.2) (reports_no_more [] _ _ _ _ _ (Unit {0}) (Unit {0}) c.in_err-make_room.field-0.0 c.in_err-make_room.ensures.reports)

pub returns-then-is_err-clause-reports : goal.returns-then-is_err-clause-reports
returns-then-is_err-clause-reports g c = loses_line _ _ _ _ _ _ c.in_ok-make_room.ensures.reports.0 c.clear.ensures.items

pub returns-clause-reports : goal.returns-clause-reports
returns-clause-reports g c =
    let room = c.in_ok-make_room.ensures.reports in
    let same = ap (λ stream. stream.subnet) c.self.view_is ∙ room.1 in
    let ports =
    c.new-ports.ensures ∙ c.ports.ensures ∙ ap (λ configuration. configuration.ports) c.configuration.ensures
    ∙ ap (λ inventory. inventory.configuration.ports) c.inventory.ensures
    ∙ ap (λ subnet. subnet.inventory.configuration.ports) same in
    let text = ap (λ stream. stream.text) c.self.view_is in
    (puts_line _ _ _ _ _ _ room.0 (ok_holds c.push_line.result c.if-is_err.ensures.value c.push_line.ensures ∙ rw (ports, text) refl), same, ap (λ stream. stream.taken) c.self.view_is ∙ room.2)
