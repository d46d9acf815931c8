use Rattle.sa_replies.proofs.WrongRefusalLemmas.{sets_name_their_partition}
use Rattle.sa_replies.proofs.request_wrong_rules.sets_name_their_partition.Goals as goal

pub returns : goal.returns
returns c = sets_name_their_partition
