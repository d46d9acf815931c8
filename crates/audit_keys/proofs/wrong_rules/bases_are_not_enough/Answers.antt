use Rattle.audit_keys.proofs.WrongLemmas.{bases_are_not_enough}
use Rattle.audit_keys.proofs.wrong_rules.bases_are_not_enough.Goals as goal

pub returns : goal.returns
returns c = bases_are_not_enough
