use Rattle.sa_replies.proofs.WrongRefusalLemmas.{methods_are_judged_first}
use Rattle.sa_replies.proofs.request_wrong_rules.methods_are_judged_first.Goals as goal

pub returns : goal.returns
returns c = methods_are_judged_first
