use Rattle.mft_file.proofs.MaskExampleLemmas.{unsound_masks_are_reported}
use Rattle.mft_file.proofs.examples.unsound_masks_are_reported.Goals as goal

pub returns : goal.returns
returns c = unsound_masks_are_reported
