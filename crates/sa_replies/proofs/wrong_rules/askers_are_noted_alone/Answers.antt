use Rattle.sa_replies.proofs.WrongLemmas.{askers_are_noted_alone}
use Rattle.sa_replies.proofs.wrong_rules.askers_are_noted_alone.Goals as goal

pub returns : goal.returns
returns c = askers_are_noted_alone
