use Rattle.audit_plan.proofs.WrongPlanLemmas.{a_node_may_be_joined_to_itself}
use Rattle.audit_plan.proofs.wrong_rules.a_node_may_be_joined_to_itself.Goals as goal

pub returns : goal.returns
returns c = a_node_may_be_joined_to_itself
