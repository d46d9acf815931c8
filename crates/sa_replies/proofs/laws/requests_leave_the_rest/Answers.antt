use Rattle.sa_replies.proofs.RefusalLemmas.{requests_leave_the_rest}
use Rattle.sa_replies.proofs.laws.requests_leave_the_rest.Goals as goal

pub returns : goal.returns
returns c = requests_leave_the_rest
