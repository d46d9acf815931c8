use Rattle.sa_replies.proofs.InCommonLemmas.{states_depend_on_near}
use Rattle.sa_replies.proofs.run_laws.states_depend_on_near.Goals as goal

pub returns : goal.returns
returns c = states_depend_on_near
