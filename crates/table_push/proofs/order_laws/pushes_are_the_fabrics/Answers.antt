use Rattle.table_push.proofs.PushLemmas.{masks_are_the_fabrics, pushes_are_the_fabrics}
use Rattle.table_push.proofs.order_laws.pushes_are_the_fabrics.Goals as goal

pub returns-clause-all : goal.returns-clause-all
returns-clause-all c = pushes_are_the_fabrics

pub returns-clause-masks : goal.returns-clause-masks
returns-clause-masks c = masks_are_the_fabrics
