use Rattle.sa_replies.proofs.WrongRefusalLemmas.{several_are_too_many}
use Rattle.sa_replies.proofs.request_wrong_rules.several_are_too_many.Goals as goal

pub returns : goal.returns
returns c = several_are_too_many
