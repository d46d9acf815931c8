use Rattle.sa_replies.proofs.WrongRefusalLemmas.{paths_name_their_sender}
use Rattle.sa_replies.proofs.request_wrong_rules.paths_name_their_sender.Goals as goal

pub returns : goal.returns
returns c = paths_name_their_sender
