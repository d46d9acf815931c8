use Rattle.sa_replies.proofs.TransferLemmas.{ends_name_their_transfer}
use Rattle.sa_replies.proofs.wrong_rules.ends_name_their_transfer.Goals as goal

pub returns : goal.returns
returns c = ends_name_their_transfer
