use Rattle.audit_plan.proofs.LevelLemmas.{levels_are_distances}
use Rattle.audit_plan.proofs.laws.levels_are_distances.Goals as goal

pub returns : goal.returns
returns c = levels_are_distances
