use Rattle.sa_store.proofs.LeaveLemmas.{joined_bits}
use Rattle.sa_store.proofs.leaving.is_joined.Goals as goal

pub returns : goal.returns
returns c = joined_bits c.args.join_state.0
