use Rattle.audit_keys.proofs.WrongLemmas.{switch_ports_count}
use Rattle.audit_keys.proofs.wrong_rules.switch_ports_count.Goals as goal

pub returns : goal.returns
returns c = switch_ports_count
