use Rattle.topology_import.proofs.ExampleLemmas.{ends_are_counted}
use Rattle.topology_import.proofs.examples.ends_are_counted.Goals as goal

pub returns : goal.returns
returns c = ends_are_counted
