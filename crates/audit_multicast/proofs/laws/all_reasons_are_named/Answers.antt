use Rattle.audit_multicast.proofs.AllReasonLemmas.{all_reasons_are_named}
use Rattle.audit_multicast.proofs.laws.all_reasons_are_named.Goals as goal

pub returns : goal.returns
returns c = all_reasons_are_named
