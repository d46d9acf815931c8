use Rattle.audit_routes.proofs.ReportedLemmas.{leading_routes_are_reported}
use Rattle.audit_routes.proofs.laws.leading_routes_are_reported.Goals as goal

pub returns : goal.returns
returns c = leading_routes_are_reported
