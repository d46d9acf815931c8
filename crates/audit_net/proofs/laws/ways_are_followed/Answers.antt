use Rattle.audit_net.proofs.EndlessLemmas.{ways_are_followed}
use Rattle.audit_net.proofs.laws.ways_are_followed.Goals as goal

pub returns : goal.returns
returns c = ways_are_followed
