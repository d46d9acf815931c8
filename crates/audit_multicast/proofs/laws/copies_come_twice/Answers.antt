use Rattle.audit_multicast.proofs.CopyFoundLemmas.{copies_come_twice}
use Rattle.audit_multicast.proofs.laws.copies_come_twice.Goals as goal

pub returns : goal.returns
returns c = copies_come_twice
