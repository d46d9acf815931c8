use Rattle.fabric_cli.proofs.RunLemmas.{run_is_reported}
use Rattle.fabric_cli.proofs.laws.runs_end_as_reports.Goals as goal

pub returns : goal.returns
returns c = run_is_reported
