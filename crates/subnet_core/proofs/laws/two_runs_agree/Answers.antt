use Rattle.subnet_core.proofs.HeadlineLemmas.{two_runs_agree}
use Rattle.subnet_core.proofs.laws.two_runs_agree.Goals as goal

pub returns : goal.returns
returns c = two_runs_agree
