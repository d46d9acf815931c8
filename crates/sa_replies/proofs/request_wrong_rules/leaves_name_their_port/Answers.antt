use Rattle.sa_replies.proofs.WrongRefusalLemmas.{leaves_name_their_port}
use Rattle.sa_replies.proofs.request_wrong_rules.leaves_name_their_port.Goals as goal

pub returns : goal.returns
returns c = leaves_name_their_port
