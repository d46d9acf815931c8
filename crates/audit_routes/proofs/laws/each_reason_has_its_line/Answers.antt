use Rattle.audit_routes.proofs.EachReasonLemmas.{each_reason_has_its_line}
use Rattle.audit_routes.proofs.laws.each_reason_has_its_line.Goals as goal

pub returns : goal.returns
returns c = each_reason_has_its_line
