use Rattle.agent_rules.proofs.UnseenLemmas.{unseen_passes}
use Rattle.agent_rules.proofs.laws.unseen_passes.Goals as goal

pub returns : goal.returns
returns c = unseen_passes
