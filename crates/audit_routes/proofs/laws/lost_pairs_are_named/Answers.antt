use Rattle.audit_routes.proofs.DecidingLemmas.{lost_pairs_are_named}
use Rattle.audit_routes.proofs.laws.lost_pairs_are_named.Goals as goal

pub returns : goal.returns
returns c = lost_pairs_are_named
