use Rattle.sa_replies.proofs.WrongRefusalLemmas.{proxies_are_refused}
use Rattle.sa_replies.proofs.request_wrong_rules.proxies_are_refused.Goals as goal

pub returns : goal.returns
returns c = proxies_are_refused
