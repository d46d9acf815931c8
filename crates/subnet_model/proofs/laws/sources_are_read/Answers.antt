use Rattle.subnet_model.proofs.IsolationLemmas.{sources_are_read}
use Rattle.subnet_model.proofs.laws.sources_are_read.Goals as goal

pub returns : goal.returns
returns c = sources_are_read
