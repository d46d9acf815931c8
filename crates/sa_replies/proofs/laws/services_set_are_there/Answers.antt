use Rattle.sa_replies.proofs.ServiceSetLemmas.{services_set_are_there}
use Rattle.sa_replies.proofs.laws.services_set_are_there.Goals as goal

pub returns : goal.returns
returns c = services_set_are_there
