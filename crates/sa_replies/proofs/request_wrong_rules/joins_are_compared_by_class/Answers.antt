use Rattle.sa_replies.proofs.WrongRefusalLemmas.{joins_are_compared_by_class}
use Rattle.sa_replies.proofs.request_wrong_rules.joins_are_compared_by_class.Goals as goal

pub returns : goal.returns
returns c = joins_are_compared_by_class
