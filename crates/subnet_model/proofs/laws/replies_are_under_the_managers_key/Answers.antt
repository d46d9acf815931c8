use Rattle.subnet_model.proofs.ReplyKeyLemmas.{replies_are_under_the_managers_key}
use Rattle.subnet_model.proofs.laws.replies_are_under_the_managers_key.Goals as goal

pub returns : goal.returns
returns g c = replies_are_under_the_managers_key
