use Rattle.sa_replies.proofs.WrongRefusalLemmas.{other_bits_stay}
use Rattle.sa_replies.proofs.request_wrong_rules.other_bits_stay.Goals as goal

pub returns : goal.returns
returns c = other_bits_stay
