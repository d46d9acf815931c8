use Rattle.audit_plan.proofs.FoundLemmas.{cables_are_taken}
use Rattle.audit_plan.proofs.laws.cables_are_taken.Goals as goal

pub returns : goal.returns
returns c = cables_are_taken
