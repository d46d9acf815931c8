use Rattle.audit_plan.proofs.WrongPlanLemmas.{tops_are_not_of_level_1}
use Rattle.audit_plan.proofs.wrong_rules.tops_are_not_of_level_1.Goals as goal

pub returns : goal.returns
returns c = tops_are_not_of_level_1
