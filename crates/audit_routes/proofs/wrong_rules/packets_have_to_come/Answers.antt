use Rattle.audit_routes.proofs.WrongLineLemmas.{packets_have_to_come}
use Rattle.audit_routes.proofs.wrong_rules.packets_have_to_come.Goals as goal

pub returns : goal.returns
returns c = packets_have_to_come
