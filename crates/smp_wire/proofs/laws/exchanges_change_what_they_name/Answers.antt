use Rattle.smp_wire.proofs.ChangeLemmas.{exchanges_change}
use Rattle.smp_wire.proofs.laws.exchanges_change_what_they_name.Goals as goal

pub returns : goal.returns
returns c = exchanges_change
