use Rattle.headline_laws.proofs.HeadlineLemmas.{scripts_are_kept_apart}
use Rattle.headline_laws.proofs.laws.scripts_are_kept_apart.Goals as goal

pub returns : goal.returns
returns c = scripts_are_kept_apart
