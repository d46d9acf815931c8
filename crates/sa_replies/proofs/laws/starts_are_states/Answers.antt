use Rattle.sa_replies.proofs.OpenTableLemmas.{starts_are_states}
use Rattle.sa_replies.proofs.laws.starts_are_states.Goals as goal

pub returns : goal.returns
returns c = starts_are_states
