use Rattle.sl2vl_file.proofs.LaneExampleLemmas.{fields_are_read}
use Rattle.sl2vl_file.proofs.examples.fields_are_read.Goals as goal

pub returns : goal.returns
returns c = fields_are_read
