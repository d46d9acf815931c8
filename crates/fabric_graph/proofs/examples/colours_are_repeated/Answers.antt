use Rattle.fabric_graph.proofs.ExampleLemmas.{colours_are_repeated}
use Rattle.fabric_graph.proofs.examples.colours_are_repeated.Goals as goal

pub returns : goal.returns
returns c = colours_are_repeated
