use Rattle.audit_net.proofs.OwnerWrongLemmas.{reports_come_last}
use Rattle.audit_net.proofs.owner_wrong_rules.reports_come_last.Goals as goal

pub returns : goal.returns
returns c = reports_come_last
