use Rattle.audit_multicast.proofs.SafeMulticastLemmas.{safe_multicast_is_reported}
use Rattle.audit_multicast.proofs.laws.safe_multicast_is_reported.Goals as goal

pub returns : goal.returns
returns c = safe_multicast_is_reported
