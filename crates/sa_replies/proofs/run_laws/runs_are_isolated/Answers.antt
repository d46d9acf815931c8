use Rattle.sa_replies.proofs.ApartLemmas.{runs_are_isolated}
use Rattle.sa_replies.proofs.run_laws.runs_are_isolated.Goals as goal

pub returns : goal.returns
returns c = runs_are_isolated
