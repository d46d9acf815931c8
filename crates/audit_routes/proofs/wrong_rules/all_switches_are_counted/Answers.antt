use Rattle.audit_routes.proofs.WrongLineLemmas.{all_switches_are_counted}
use Rattle.audit_routes.proofs.wrong_rules.all_switches_are_counted.Goals as goal

pub returns : goal.returns
returns c = all_switches_are_counted
