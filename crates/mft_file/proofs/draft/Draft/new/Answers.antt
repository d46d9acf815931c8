use Rattle.mft_file.proofs.MaskSoundLemmas.{no_masks_sound}
use Rattle.mft_file.proofs.draft.Draft.new.Goals as goal

pub invariant_of-result : goal.invariant_of-result
invariant_of-result c = rw (c.new.ensures, c.new-2.ensures.items) no_masks_sound
