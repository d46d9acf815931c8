use Rattle.audit_keys.proofs.VerdictLemmas.{the_verdict_is_true}
use Rattle.audit_keys.proofs.laws.the_verdict_is_true.Goals as goal

pub returns : goal.returns
returns c = the_verdict_is_true
