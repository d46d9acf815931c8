use Rattle.sa_replies.proofs.WrongRefusalLemmas.{mgids_are_multicast}
use Rattle.sa_replies.proofs.request_wrong_rules.mgids_are_multicast.Goals as goal

pub returns : goal.returns
returns c = mgids_are_multicast
