use Rattle.sa_replies.proofs.WrongNameLemmas.{counts_are_named}
use Rattle.sa_replies.proofs.request_wrong_rules.counts_are_named.Goals as goal

pub returns : goal.returns
returns c = counts_are_named
