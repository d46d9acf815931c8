use Rattle.sa_replies.proofs.JoinStateLemmas.{join_states_are_bits}
use Rattle.sa_replies.proofs.request_laws.join_states_are_bits.Goals as goal

pub returns : goal.returns
returns c = join_states_are_bits
