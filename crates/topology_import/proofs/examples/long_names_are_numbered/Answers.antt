use Rattle.topology_import.proofs.ExampleLemmas.{long_names_are_numbered}
use Rattle.topology_import.proofs.examples.long_names_are_numbered.Goals as goal

pub returns : goal.returns
returns c = long_names_are_numbered
