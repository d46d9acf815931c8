use Rattle.mft_file.proofs.MaskExampleLemmas.{titles_are_read}
use Rattle.mft_file.proofs.examples.titles_are_read.Goals as goal

pub returns : goal.returns
returns c = titles_are_read
