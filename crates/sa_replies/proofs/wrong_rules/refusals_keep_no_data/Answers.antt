use Rattle.sa_replies.proofs.WrongStateLemmas.{refusals_keep_no_data}
use Rattle.sa_replies.proofs.wrong_rules.refusals_keep_no_data.Goals as goal

pub returns : goal.returns
returns c = refusals_keep_no_data
