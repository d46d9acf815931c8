use Rattle.audit_net.proofs.WrongLemmas.{loops_begin_where_reported}
use Rattle.audit_net.proofs.wrong_rules.loops_begin_where_reported.Goals as goal

pub returns : goal.returns
returns c = loops_begin_where_reported
