use Rattle.sa_replies.proofs.RefusalLemmas.{refused_change_nothing}
use Rattle.sa_replies.proofs.laws.refused_change_nothing.Goals as goal

pub returns : goal.returns
returns c = refused_change_nothing
