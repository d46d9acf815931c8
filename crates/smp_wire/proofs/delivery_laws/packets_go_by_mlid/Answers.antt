use Rattle.smp_wire.proofs.ByMlidLemmas.{packets_go_by_mlid}
use Rattle.smp_wire.proofs.delivery_laws.packets_go_by_mlid.Goals as goal

pub returns : goal.returns
returns c = packets_go_by_mlid
