use Rattle.topology_import.proofs.ExampleLemmas.{ports_are_imported}
use Rattle.topology_import.proofs.examples.ports_are_imported.Goals as goal

pub returns : goal.returns
returns c = ports_are_imported
