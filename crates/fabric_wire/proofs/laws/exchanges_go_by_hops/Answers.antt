use Rattle.fabric_wire.proofs.AnsweredLemmas.{exchanges_go_by_hops}
use Rattle.fabric_wire.proofs.laws.exchanges_go_by_hops.Goals as goal

pub returns : goal.returns
returns c = exchanges_go_by_hops
