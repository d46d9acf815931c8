use Rattle.audit_routes.proofs.CountLemmas.{counts_add_up}
use Rattle.audit_routes.proofs.laws.counts_add_up.Goals as goal

pub returns : goal.returns
returns c = counts_add_up
