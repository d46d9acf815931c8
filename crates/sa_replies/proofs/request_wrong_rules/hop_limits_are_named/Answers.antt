use Rattle.sa_replies.proofs.WrongNameLemmas.{hop_limits_are_named}
use Rattle.sa_replies.proofs.request_wrong_rules.hop_limits_are_named.Goals as goal

pub returns : goal.returns
returns c = hop_limits_are_named
