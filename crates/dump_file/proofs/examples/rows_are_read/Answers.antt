use Rattle.dump_file.proofs.ExampleLemmas.{rows_are_read}
use Rattle.dump_file.proofs.examples.rows_are_read.Goals as goal

pub returns : goal.returns
returns c = rows_are_read
