use Rattle.audit_lanes.proofs.ExampleLemmas.{hops_are_reported}
use Rattle.audit_lanes.proofs.examples.hops_are_reported.Goals as goal

pub returns : goal.returns
returns c = hops_are_reported
