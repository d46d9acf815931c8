use Rattle.audit_routes.proofs.UnknownLemmas.{unknown_entries_are_named}
use Rattle.audit_routes.proofs.laws.unknown_entries_are_named.Goals as goal

pub returns : goal.returns
returns c = unknown_entries_are_named
