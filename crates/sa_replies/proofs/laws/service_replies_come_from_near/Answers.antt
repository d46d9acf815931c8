use Rattle.sa_replies.proofs.ReplySourceLemmas.{service_replies_come_from_near}
use Rattle.sa_replies.proofs.laws.service_replies_come_from_near.Goals as goal

pub returns : goal.returns
returns c = service_replies_come_from_near
