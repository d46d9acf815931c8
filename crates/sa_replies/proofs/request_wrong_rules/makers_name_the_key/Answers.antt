use Rattle.sa_replies.proofs.WrongRefusalLemmas.{makers_name_the_key}
use Rattle.sa_replies.proofs.request_wrong_rules.makers_name_the_key.Goals as goal

pub returns : goal.returns
returns c = makers_name_the_key
