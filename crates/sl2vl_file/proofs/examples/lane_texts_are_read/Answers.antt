use Rattle.sl2vl_file.proofs.LaneExampleLemmas.{lane_texts_are_read}
use Rattle.sl2vl_file.proofs.examples.lane_texts_are_read.Goals as goal

pub returns : goal.returns
returns c = lane_texts_are_read
