use Rattle.agent_rules.proofs.CarryLemmas.{carries}
use Rattle.agent_rules.proofs.laws.replies_carry.Goals as goal

pub returns : goal.returns
returns c = carries
