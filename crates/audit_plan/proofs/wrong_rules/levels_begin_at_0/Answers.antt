use Rattle.audit_plan.proofs.WrongPlanLemmas.{levels_begin_at_0}
use Rattle.audit_plan.proofs.wrong_rules.levels_begin_at_0.Goals as goal

pub returns : goal.returns
returns c = levels_begin_at_0
