use Rattle.rmpp_core.proofs.NumberLemmas.{segments_have_their_numbers}
use Rattle.rmpp_core.proofs.laws.segments_have_their_numbers.Goals as goal

pub returns : goal.returns
returns c = segments_have_their_numbers
