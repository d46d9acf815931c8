use Rattle.audit_lanes.proofs.ExampleLemmas.{lanes_are_reported}
use Rattle.audit_lanes.proofs.examples.lanes_are_reported.Goals as goal

pub returns : goal.returns
returns c = lanes_are_reported
