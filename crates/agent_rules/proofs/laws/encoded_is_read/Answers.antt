use Rattle.agent_rules.proofs.CarriedLemmas.{encoded_is_read}
use Rattle.agent_rules.proofs.laws.encoded_is_read.Goals as goal

pub returns : goal.returns
returns c = encoded_is_read
