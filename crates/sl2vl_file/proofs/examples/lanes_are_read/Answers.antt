use Rattle.sl2vl_file.proofs.LaneExampleLemmas.{lanes_are_read}
use Rattle.sl2vl_file.proofs.examples.lanes_are_read.Goals as goal

pub returns : goal.returns
returns c = lanes_are_read
