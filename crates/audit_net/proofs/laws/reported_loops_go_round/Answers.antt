use Rattle.audit_net.proofs.EndlessLemmas.{reported_loops_go_round}
use Rattle.audit_net.proofs.laws.reported_loops_go_round.Goals as goal

pub returns : goal.returns
returns c = reported_loops_go_round
