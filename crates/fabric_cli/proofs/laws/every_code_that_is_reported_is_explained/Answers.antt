use Rattle.fabric_cli.proofs.ExplainedLemmas.{refusals_are_explained, stops_are_reported}
use Rattle.fabric_cli.proofs.laws.every_code_that_is_reported_is_explained.Goals as goal

pub returns-clause-faults : goal.returns-clause-faults
returns-clause-faults c = stops_are_reported

pub returns-clause-refusals : goal.returns-clause-refusals
returns-clause-refusals c = refusals_are_explained
