use Rattle.audit_plan.proofs.WrongPlanLemmas.{adapters_are_joined_apart}
use Rattle.audit_plan.proofs.wrong_rules.adapters_are_joined_apart.Goals as goal

pub returns : goal.returns
returns c = adapters_are_joined_apart
