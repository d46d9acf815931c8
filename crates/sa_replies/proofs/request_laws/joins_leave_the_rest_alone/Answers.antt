use Rattle.sa_replies.proofs.EnteredLemmas.{joins_leave_the_rest_alone}
use Rattle.sa_replies.proofs.request_laws.joins_leave_the_rest_alone.Goals as goal

pub returns : goal.returns
returns c = joins_leave_the_rest_alone
