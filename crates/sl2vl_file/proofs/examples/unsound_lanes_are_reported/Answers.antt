use Rattle.sl2vl_file.proofs.LaneExampleLemmas.{unsound_lanes_are_reported}
use Rattle.sl2vl_file.proofs.examples.unsound_lanes_are_reported.Goals as goal

pub returns : goal.returns
returns c = unsound_lanes_are_reported
