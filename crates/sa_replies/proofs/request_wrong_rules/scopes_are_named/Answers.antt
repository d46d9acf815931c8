use Rattle.sa_replies.proofs.WrongNameLemmas.{scopes_are_named}
use Rattle.sa_replies.proofs.request_wrong_rules.scopes_are_named.Goals as goal

pub returns : goal.returns
returns c = scopes_are_named
