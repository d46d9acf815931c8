use Rattle.fabric_graph.proofs.ExampleLemmas.{many_cables_are_a_crowd}
use Rattle.fabric_graph.proofs.examples.many_cables_are_a_crowd.Goals as goal

pub returns : goal.returns
returns c = many_cables_are_a_crowd
