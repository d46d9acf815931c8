use Rattle.table_push.proofs.BroughtUpLemmas.{brings_up}
use Rattle.table_push.proofs.EndLemmas.{end_ports_stay}
use Rattle.table_push.proofs.laws.pushes_bring_up.Goals as goal

pub returns-clause-up : goal.returns-clause-up
returns-clause-up c = brings_up

pub returns-clause-ends : goal.returns-clause-ends
returns-clause-ends c = end_ports_stay
