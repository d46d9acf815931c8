use Rattle.topology_import.proofs.ExampleLemmas.{sizes_are_compared}
use Rattle.topology_import.proofs.examples.sizes_are_compared.Goals as goal

pub returns : goal.returns
returns c = sizes_are_compared
