use Rattle.sweep.proofs.EndPortLemmas.{graphs_have_the_end_ports}
use Rattle.sweep.proofs.laws.graphs_have_the_end_ports.Goals as goal

pub returns : goal.returns
returns c = graphs_have_the_end_ports
