use Rattle.table_push.proofs.AllMaskLemmas.{all_masks_are_there, masks_keep_what_is_up}
use Rattle.table_push.proofs.laws.masks_keep_what_is_up.Goals as goal

pub returns-clause-up : goal.returns-clause-up
returns-clause-up c = masks_keep_what_is_up

pub returns-clause-masks : goal.returns-clause-masks
returns-clause-masks c = all_masks_are_there
