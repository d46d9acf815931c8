use Rattle.audit_plan.proofs.WrongPlanLemmas.{switches_have_lids}
use Rattle.audit_plan.proofs.wrong_rules.switches_have_lids.Goals as goal

pub returns : goal.returns
returns c = switches_have_lids
