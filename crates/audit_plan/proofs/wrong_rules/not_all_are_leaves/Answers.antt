use Rattle.audit_plan.proofs.WrongPlanLemmas.{not_all_are_leaves}
use Rattle.audit_plan.proofs.wrong_rules.not_all_are_leaves.Goals as goal

pub returns : goal.returns
returns c = not_all_are_leaves
