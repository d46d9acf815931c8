use Rattle.sa_replies.proofs.WrongNameLemmas.{unnamed_hop_limits_are_zero}
use Rattle.sa_replies.proofs.request_wrong_rules.unnamed_hop_limits_are_zero.Goals as goal

pub returns : goal.returns
returns c = unnamed_hop_limits_are_zero
