use Rattle.audit_multicast.proofs.MulticastExampleLemmas.{multicast_lines_are_reported}
use Rattle.audit_multicast.proofs.examples.multicast_lines_are_reported.Goals as goal

pub returns : goal.returns
returns c = multicast_lines_are_reported
