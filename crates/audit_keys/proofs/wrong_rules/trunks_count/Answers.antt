use Rattle.audit_keys.proofs.WrongLemmas.{trunks_count}
use Rattle.audit_keys.proofs.wrong_rules.trunks_count.Goals as goal

pub returns : goal.returns
returns c = trunks_count
