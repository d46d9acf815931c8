use Rattle.audit_plan.proofs.WrongPlanLemmas.{nobody_has_lid_0}
use Rattle.audit_plan.proofs.wrong_rules.nobody_has_lid_0.Goals as goal

pub returns : goal.returns
returns c = nobody_has_lid_0
