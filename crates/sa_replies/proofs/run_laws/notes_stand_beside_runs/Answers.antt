use Rattle.sa_replies.proofs.RunSourceLemmas.{notes_stand_beside_runs}
use Rattle.sa_replies.proofs.run_laws.notes_stand_beside_runs.Goals as goal

pub returns : goal.returns
returns c = notes_stand_beside_runs
