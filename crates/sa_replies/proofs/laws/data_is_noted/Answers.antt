use Rattle.sa_replies.proofs.NotedDataLemmas.{data_is_noted}
use Rattle.sa_replies.proofs.laws.data_is_noted.Goals as goal

pub returns : goal.returns
returns c = data_is_noted
