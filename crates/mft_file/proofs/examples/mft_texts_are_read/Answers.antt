use Rattle.mft_file.proofs.MaskExampleLemmas.{mft_texts_are_read}
use Rattle.mft_file.proofs.examples.mft_texts_are_read.Goals as goal

pub returns : goal.returns
returns c = mft_texts_are_read
