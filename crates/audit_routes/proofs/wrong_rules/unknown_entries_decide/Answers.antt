use Rattle.audit_routes.proofs.WrongLemmas.{unknown_entries_decide}
use Rattle.audit_routes.proofs.wrong_rules.unknown_entries_decide.Goals as goal

pub returns : goal.returns
returns c = unknown_entries_decide
