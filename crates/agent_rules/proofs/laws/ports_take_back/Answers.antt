use Rattle.agent_rules.proofs.GoodLemmas.{ports_take_back}
use Rattle.agent_rules.proofs.laws.ports_take_back.Goals as goal

pub returns : goal.returns
returns c = ports_take_back
