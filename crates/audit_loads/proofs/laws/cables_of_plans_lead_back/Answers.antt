use Rattle.audit_loads.proofs.CableLemmas.{cables_of_plans_lead_back}
use Rattle.audit_loads.proofs.laws.cables_of_plans_lead_back.Goals as goal

pub returns : goal.returns
returns c = cables_of_plans_lead_back
