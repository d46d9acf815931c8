use Rattle.audit_plan.proofs.WrongPlanLemmas.{leaves_are_no_tops}
use Rattle.audit_plan.proofs.wrong_rules.leaves_are_no_tops.Goals as goal

pub returns : goal.returns
returns c = leaves_are_no_tops
