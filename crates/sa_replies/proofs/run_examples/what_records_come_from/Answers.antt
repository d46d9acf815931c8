use Rattle.sa_replies.proofs.RunExampleLemmas.{what_records_come_from}
use Rattle.sa_replies.proofs.run_examples.what_records_come_from.Goals as goal

pub returns : goal.returns
returns c = what_records_come_from
