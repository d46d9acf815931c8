use Rattle.audit_routes.proofs.WrongLemmas.{other_lids_decide}
use Rattle.audit_routes.proofs.wrong_rules.other_lids_decide.Goals as goal

pub returns : goal.returns
returns c = other_lids_decide
