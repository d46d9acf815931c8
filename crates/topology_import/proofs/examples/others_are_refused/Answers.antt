use Rattle.topology_import.proofs.ExampleLemmas.{others_are_refused}
use Rattle.topology_import.proofs.examples.others_are_refused.Goals as goal

pub returns : goal.returns
returns c = others_are_refused
