use Rattle.table_push.proofs.ForwardsMlidLemmas.{brought_up_forwards_by_mlid}
use Rattle.table_push.proofs.laws.brought_up_forwards_by_mlid.Goals as goal

pub returns : goal.returns
returns c = brought_up_forwards_by_mlid
