use Rattle.rmpp_core.proofs.NumberLemmas.{last_acks_complete}
use Rattle.rmpp_core.proofs.laws.last_acks_complete.Goals as goal

pub returns : goal.returns
returns c = last_acks_complete
