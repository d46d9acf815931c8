use Rattle.sa_replies.proofs.ServiceSetLemmas.{services_deleted_are_gone}
use Rattle.sa_replies.proofs.laws.services_deleted_are_gone.Goals as goal

pub returns : goal.returns
returns c = services_deleted_are_gone
