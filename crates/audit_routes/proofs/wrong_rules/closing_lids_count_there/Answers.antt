use Rattle.audit_routes.proofs.WrongLemmas.{closing_lids_count_there}
use Rattle.audit_routes.proofs.wrong_rules.closing_lids_count_there.Goals as goal

pub returns : goal.returns
returns c = closing_lids_count_there
