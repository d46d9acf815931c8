use Rattle.sa_replies.proofs.WrongNameLemmas.{leases_are_named}
use Rattle.sa_replies.proofs.request_wrong_rules.leases_are_named.Goals as goal

pub returns : goal.returns
returns c = leases_are_named
