use Rattle.sa_replies.proofs.TableLemmas.{runs_are_states}
use Rattle.sa_replies.proofs.run_laws.runs_are_states.Goals as goal

pub returns : goal.returns
returns c = runs_are_states
