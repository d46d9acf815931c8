use Rattle.audit_keys.proofs.WrongLemmas.{own_tables_are_not_enough}
use Rattle.audit_keys.proofs.wrong_rules.own_tables_are_not_enough.Goals as goal

pub returns : goal.returns
returns c = own_tables_are_not_enough
