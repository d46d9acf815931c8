use Rattle.sa_replies.proofs.TransferLemmas.{high_bits_are_looked_at}
use Rattle.sa_replies.proofs.wrong_rules.high_bits_are_looked_at.Goals as goal

pub returns : goal.returns
returns c = high_bits_are_looked_at
