use Rattle.audit_keys.proofs.ExampleLemmas.{wide_partitions_are_reported}
use Rattle.audit_keys.proofs.examples.wide_partitions_are_reported.Goals as goal

pub returns : goal.returns
returns c = wide_partitions_are_reported
