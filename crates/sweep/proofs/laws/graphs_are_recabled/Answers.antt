use Rattle.sweep.proofs.CutLemmas.{graphs_are_recabled}
use Rattle.sweep.proofs.laws.graphs_are_recabled.Goals as goal

pub returns : goal.returns
returns c = graphs_are_recabled
