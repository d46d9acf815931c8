use Rattle.audit_lanes.proofs.ExampleLemmas.{records_are_reported}
use Rattle.audit_lanes.proofs.examples.records_are_reported.Goals as goal

pub returns : goal.returns
returns c = records_are_reported
