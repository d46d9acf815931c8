use Rattle.rmpp_core.proofs.CutLemmas.{the_segments}
use Rattle.rmpp_core.proofs.laws.segments_are_the_bytes.Goals as goal

pub returns : goal.returns
returns c = the_segments
