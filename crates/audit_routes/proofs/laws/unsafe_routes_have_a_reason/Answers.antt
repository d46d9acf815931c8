use Rattle.audit_routes.proofs.ReasonLemmas.{unsafe_routes_have_a_reason}
use Rattle.audit_routes.proofs.laws.unsafe_routes_have_a_reason.Goals as goal

pub returns : goal.returns
returns c = unsafe_routes_have_a_reason
