use Rattle.audit_lanes.proofs.ExampleLemmas.{lane_lines_are_reported}
use Rattle.audit_lanes.proofs.examples.lane_lines_are_reported.Goals as goal

pub returns : goal.returns
returns c = lane_lines_are_reported
