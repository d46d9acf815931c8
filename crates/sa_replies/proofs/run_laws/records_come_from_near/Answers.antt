use Rattle.sa_replies.proofs.RunSourceLemmas.{records_come_from_near}
use Rattle.sa_replies.proofs.run_laws.records_come_from_near.Goals as goal

pub returns : goal.returns
returns c = records_come_from_near
