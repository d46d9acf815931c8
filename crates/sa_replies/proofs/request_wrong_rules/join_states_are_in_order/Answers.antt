use Rattle.sa_replies.proofs.JoinStateLemmas.{join_states_are_in_order}
use Rattle.sa_replies.proofs.request_wrong_rules.join_states_are_in_order.Goals as goal

pub returns : goal.returns
returns c = join_states_are_in_order
