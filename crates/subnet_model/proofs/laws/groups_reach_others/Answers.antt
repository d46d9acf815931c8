use Rattle.subnet_model.proofs.GroupLemmas.{groups_reach_others}
use Rattle.subnet_model.proofs.laws.groups_reach_others.Goals as goal

pub returns : goal.returns
returns c = groups_reach_others
