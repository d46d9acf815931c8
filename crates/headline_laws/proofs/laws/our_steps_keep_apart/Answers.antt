use Rattle.headline_laws.proofs.HeadlineLemmas.{our_steps_keep_apart}
use Rattle.headline_laws.proofs.laws.our_steps_keep_apart.Goals as goal

pub returns : goal.returns
returns c = our_steps_keep_apart
