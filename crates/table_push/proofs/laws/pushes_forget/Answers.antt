use Rattle.table_push.proofs.ForgetLemmas.{pushes_forget, pushes_replace}
use Rattle.table_push.proofs.laws.pushes_forget.Goals as goal

pub returns-clause-forget : goal.returns-clause-forget
returns-clause-forget c = pushes_forget

pub returns-clause-replace : goal.returns-clause-replace
returns-clause-replace c = pushes_replace
