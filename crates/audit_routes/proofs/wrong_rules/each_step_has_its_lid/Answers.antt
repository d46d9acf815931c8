use Rattle.audit_routes.proofs.WrongLemmas.{each_step_has_its_lid}
use Rattle.audit_routes.proofs.wrong_rules.each_step_has_its_lid.Goals as goal

pub returns : goal.returns
returns c = each_step_has_its_lid
