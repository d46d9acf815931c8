use Rattle.sa_replies.proofs.TransferLemmas.{active_requests_are_ignored}
use Rattle.sa_replies.proofs.wrong_rules.active_requests_are_ignored.Goals as goal

pub returns : goal.returns
returns c = active_requests_are_ignored
