use Rattle.audit_routes.proofs.ReportedLemmas.{safe_routes_are_reported}
use Rattle.audit_routes.proofs.laws.safe_routes_are_reported.Goals as goal

pub returns : goal.returns
returns c = safe_routes_are_reported
