use Rattle.port_model.proofs.OwnLemmas.{answer_for_themselves}
use Rattle.port_model.proofs.laws.ports_answer_for_themselves.Goals as goal

pub returns : goal.returns
returns c = answer_for_themselves
