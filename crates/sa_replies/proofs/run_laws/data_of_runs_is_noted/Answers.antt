use Rattle.sa_replies.proofs.RunDataLemmas.{data_of_runs_is_noted}
use Rattle.sa_replies.proofs.run_laws.data_of_runs_is_noted.Goals as goal

pub returns : goal.returns
returns c = data_of_runs_is_noted
