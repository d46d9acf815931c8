use Rattle.smp_wire.proofs.PathLemmas.{paths_begin, paths_go_on, walks_go_on}
use Rattle.smp_wire.proofs.laws.paths_go_on.Goals as goal

pub returns-clause-walks : goal.returns-clause-walks
returns-clause-walks c = walks_go_on

pub returns-clause-ends : goal.returns-clause-ends
returns-clause-ends c = paths_go_on

pub returns-clause-begins : goal.returns-clause-begins
returns-clause-begins c = paths_begin
