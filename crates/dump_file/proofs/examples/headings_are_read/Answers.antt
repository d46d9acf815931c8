use Rattle.dump_file.proofs.ExampleLemmas.{headings_are_read}
use Rattle.dump_file.proofs.examples.headings_are_read.Goals as goal

pub returns : goal.returns
returns c = headings_are_read
