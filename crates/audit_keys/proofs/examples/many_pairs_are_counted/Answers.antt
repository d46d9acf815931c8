use Rattle.audit_keys.proofs.ExampleLemmas.{many_pairs_are_counted}
use Rattle.audit_keys.proofs.examples.many_pairs_are_counted.Goals as goal

pub returns : goal.returns
returns c = many_pairs_are_counted
