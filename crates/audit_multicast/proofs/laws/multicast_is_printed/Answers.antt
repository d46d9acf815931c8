use Rattle.audit_multicast.proofs.PrintedLemmas.{multicast_is_printed}
use Rattle.audit_multicast.proofs.laws.multicast_is_printed.Goals as goal

pub returns : goal.returns
returns c = multicast_is_printed
