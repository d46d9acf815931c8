use Rattle.sa_replies.proofs.WrongNameLemmas.{proxies_are_named}
use Rattle.sa_replies.proofs.request_wrong_rules.proxies_are_named.Goals as goal

pub returns : goal.returns
returns c = proxies_are_named
