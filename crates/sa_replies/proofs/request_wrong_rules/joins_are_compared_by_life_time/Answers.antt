use Rattle.sa_replies.proofs.WrongRefusalLemmas.{joins_are_compared_by_life_time}
use Rattle.sa_replies.proofs.request_wrong_rules.joins_are_compared_by_life_time.Goals as goal

pub returns : goal.returns
returns c = joins_are_compared_by_life_time
