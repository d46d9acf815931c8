use Rattle.sa_replies.proofs.WrongRefusalLemmas.{joins_name_their_port}
use Rattle.sa_replies.proofs.request_wrong_rules.joins_name_their_port.Goals as goal

pub returns : goal.returns
returns c = joins_name_their_port
