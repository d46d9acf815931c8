use Rattle.sa_replies.proofs.OpenTableLemmas.{answers_keep_states}
use Rattle.sa_replies.proofs.laws.answers_keep_states.Goals as goal

pub returns : goal.returns
returns c = answers_keep_states
