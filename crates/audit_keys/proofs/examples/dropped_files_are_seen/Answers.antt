use Rattle.audit_keys.proofs.ExampleLemmas.{dropped_files_are_seen}
use Rattle.audit_keys.proofs.examples.dropped_files_are_seen.Goals as goal

pub returns : goal.returns
returns c = dropped_files_are_seen
