use Rattle.audit_keys.proofs.WrongLemmas.{one_direction_counts}
use Rattle.audit_keys.proofs.wrong_rules.one_direction_counts.Goals as goal

pub returns : goal.returns
returns c = one_direction_counts
