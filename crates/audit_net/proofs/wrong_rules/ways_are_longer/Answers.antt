use Rattle.audit_net.proofs.WrongLemmas.{ways_are_longer}
use Rattle.audit_net.proofs.wrong_rules.ways_are_longer.Goals as goal

pub returns : goal.returns
returns c = ways_are_longer
