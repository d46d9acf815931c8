use Rattle.sweep.proofs.SweptLemmas.{whole_graphs_are_swept}
use Rattle.sweep.proofs.laws.whole_graphs_are_swept.Goals as goal

pub returns : goal.returns
returns c = whole_graphs_are_swept
