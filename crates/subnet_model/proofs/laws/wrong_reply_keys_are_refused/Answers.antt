use Rattle.subnet_model.proofs.ReplyKeyLemmas.{wrong_reply_keys_are_refused}
use Rattle.subnet_model.proofs.laws.wrong_reply_keys_are_refused.Goals as goal

pub returns : goal.returns
returns c = wrong_reply_keys_are_refused
