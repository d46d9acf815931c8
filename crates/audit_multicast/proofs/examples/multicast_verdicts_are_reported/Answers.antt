use Rattle.audit_multicast.proofs.MulticastExampleLemmas.{multicast_verdicts_are_reported}
use Rattle.audit_multicast.proofs.examples.multicast_verdicts_are_reported.Goals as goal

pub returns : goal.returns
returns c = multicast_verdicts_are_reported
