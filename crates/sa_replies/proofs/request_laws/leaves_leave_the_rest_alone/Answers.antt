use Rattle.sa_replies.proofs.LeaveLemmas.{leaves_leave_the_rest_alone}
use Rattle.sa_replies.proofs.request_laws.leaves_leave_the_rest_alone.Goals as goal

pub returns : goal.returns
returns c = leaves_leave_the_rest_alone
