use Rattle.topology_import.proofs.ExampleLemmas.{two_hosts_are_imported}
use Rattle.topology_import.proofs.examples.two_hosts_are_imported.Goals as goal

pub returns : goal.returns
returns c = two_hosts_are_imported
