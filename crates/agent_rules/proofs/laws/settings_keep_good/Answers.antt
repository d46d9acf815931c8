use Rattle.agent_rules.proofs.GoodLemmas.{settings_keep_good}
use Rattle.agent_rules.proofs.laws.settings_keep_good.Goals as goal

pub returns : goal.returns
returns c = settings_keep_good
