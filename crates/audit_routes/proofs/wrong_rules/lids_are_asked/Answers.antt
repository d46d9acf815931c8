use Rattle.audit_routes.proofs.WrongLemmas.{lids_are_asked}
use Rattle.audit_routes.proofs.wrong_rules.lids_are_asked.Goals as goal

pub returns : goal.returns
returns c = lids_are_asked
