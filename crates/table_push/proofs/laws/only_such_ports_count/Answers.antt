use Rattle.table_push.proofs.EnforcementLemmas.{only_such_ports_count as such_count}
use Rattle.table_push.proofs.laws.only_such_ports_count.Goals as goal

pub returns : goal.returns
returns c = such_count
