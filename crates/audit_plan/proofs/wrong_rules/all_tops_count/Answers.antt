use Rattle.audit_plan.proofs.WrongPlanLemmas.{all_tops_count}
use Rattle.audit_plan.proofs.wrong_rules.all_tops_count.Goals as goal

pub returns : goal.returns
returns c = all_tops_count
