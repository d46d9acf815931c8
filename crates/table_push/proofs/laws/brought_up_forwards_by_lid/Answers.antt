use Rattle.table_push.proofs.ForwardsLemmas.{brought_up_forwards_by_lid}
use Rattle.table_push.proofs.laws.brought_up_forwards_by_lid.Goals as goal

pub returns : goal.returns
returns c = brought_up_forwards_by_lid
