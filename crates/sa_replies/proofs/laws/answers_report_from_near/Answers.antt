use Rattle.sa_replies.proofs.NoteLemmas.{answers_report_from_near}
use Rattle.sa_replies.proofs.laws.answers_report_from_near.Goals as goal

pub returns : goal.returns
returns c = answers_report_from_near
