use Rattle.sa_replies.proofs.TransferLemmas.{transfers_go_by_five_fields}
use Rattle.sa_replies.proofs.laws.transfers_go_by_five_fields.Goals as goal

pub returns : goal.returns
returns c = transfers_go_by_five_fields
