use Rattle.topology_import.proofs.ExampleLemmas.{loops_are_cables}
use Rattle.topology_import.proofs.examples.loops_are_cables.Goals as goal

pub returns : goal.returns
returns c = loops_are_cables
