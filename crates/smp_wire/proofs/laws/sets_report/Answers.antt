use Rattle.smp_wire.proofs.SetLemmas.{sets_report}
use Rattle.smp_wire.proofs.laws.sets_report.Goals as goal

pub returns : goal.returns
returns c = sets_report
