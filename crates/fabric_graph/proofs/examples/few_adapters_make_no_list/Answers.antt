use Rattle.fabric_graph.proofs.ExampleLemmas.{few_adapters_make_no_list}
use Rattle.fabric_graph.proofs.examples.few_adapters_make_no_list.Goals as goal

pub returns : goal.returns
returns c = few_adapters_make_no_list
