use Rattle.sa_store.proofs.LostLemmas.{receiver_bits}
use Rattle.sa_store.proofs.receivers.is_receiver.Goals as goal

pub returns : goal.returns
returns c = receiver_bits c.args.join_state.0
