use Rattle.sa_replies.proofs.NamedRunLemmas.{steps_name_notes}
use Rattle.sa_replies.proofs.run_laws.steps_name_notes.Goals as goal

pub returns : goal.returns
returns c = steps_name_notes
