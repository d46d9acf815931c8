use Rattle.table_push.proofs.MaskLemmas.{masks_are_read}
use Rattle.table_push.proofs.laws.masks_are_read.Goals as goal

pub returns : goal.returns
returns c = masks_are_read
