use Rattle.agent_rules.proofs.TakenLemmas.{sets_are_taken}
use Rattle.agent_rules.proofs.laws.sets_are_taken.Goals as goal

pub returns : goal.returns
returns c = sets_are_taken
