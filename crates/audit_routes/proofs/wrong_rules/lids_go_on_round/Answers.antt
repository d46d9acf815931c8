use Rattle.audit_routes.proofs.WrongLemmas.{lids_go_on_round}
use Rattle.audit_routes.proofs.wrong_rules.lids_go_on_round.Goals as goal

pub returns : goal.returns
returns c = lids_go_on_round
