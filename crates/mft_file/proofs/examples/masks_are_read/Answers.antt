use Rattle.mft_file.proofs.MaskExampleLemmas.{masks_are_read}
use Rattle.mft_file.proofs.examples.masks_are_read.Goals as goal

pub returns : goal.returns
returns c = masks_are_read
