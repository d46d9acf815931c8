use Rattle.audit_routes.proofs.TroubleLemmas.{each_trouble_has_a_line}
use Rattle.audit_routes.proofs.laws.each_trouble_has_a_line.Goals as goal

pub returns : goal.returns
returns c = each_trouble_has_a_line
