use Rattle.audit_net.proofs.WrongLemmas.{ways_go_on}
use Rattle.audit_net.proofs.wrong_rules.ways_go_on.Goals as goal

pub returns : goal.returns
returns c = ways_go_on
