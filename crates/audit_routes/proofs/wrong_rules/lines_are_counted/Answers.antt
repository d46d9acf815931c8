use Rattle.audit_routes.proofs.WrongLineLemmas.{lines_are_counted}
use Rattle.audit_routes.proofs.wrong_rules.lines_are_counted.Goals as goal

pub returns : goal.returns
returns c = lines_are_counted
