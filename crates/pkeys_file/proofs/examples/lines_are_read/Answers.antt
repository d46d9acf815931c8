use Rattle.pkeys_file.proofs.ExampleLemmas.{lines_are_read}
use Rattle.pkeys_file.proofs.examples.lines_are_read.Goals as goal

pub returns : goal.returns
returns c = lines_are_read
