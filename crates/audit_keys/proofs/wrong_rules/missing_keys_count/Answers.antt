use Rattle.audit_keys.proofs.WrongLemmas.{missing_keys_count}
use Rattle.audit_keys.proofs.wrong_rules.missing_keys_count.Goals as goal

pub returns : goal.returns
returns c = missing_keys_count
