use Rattle.audit_plan.proofs.LidLawLemmas.{lids_are_taken}
use Rattle.audit_plan.proofs.laws.lids_are_taken.Goals as goal

pub returns : goal.returns
returns c = lids_are_taken
