use Rattle.smp_wire.proofs.ReportLemmas.{gets_report}
use Rattle.smp_wire.proofs.laws.gets_report.Goals as goal

pub returns : goal.returns
returns c = gets_report
