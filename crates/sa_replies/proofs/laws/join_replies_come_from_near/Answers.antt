use Rattle.sa_replies.proofs.ReplySourceLemmas.{join_replies_come_from_near}
use Rattle.sa_replies.proofs.laws.join_replies_come_from_near.Goals as goal

pub returns : goal.returns
returns c = join_replies_come_from_near
