use Rattle.headline_laws.proofs.HeadlineLemmas.{runs_report_apart}
use Rattle.headline_laws.proofs.laws.runs_report_apart.Goals as goal

pub returns : goal.returns
returns c = runs_report_apart
