use Rattle.subnet_core.proofs.StepLawLemmas.{refused_cuts_change_nothing}
use Rattle.subnet_core.proofs.laws.refused_cuts_change_nothing.Goals as goal

pub returns : goal.returns
returns c = refused_cuts_change_nothing
