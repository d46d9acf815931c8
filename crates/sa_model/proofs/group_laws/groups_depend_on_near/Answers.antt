use Rattle.sa_model.proofs.ChangeLemmas.{every_run_is_seen_alike}
use Rattle.sa_model.proofs.group_laws.groups_depend_on_near.Goals as goal

pub returns : goal.returns
returns c = every_run_is_seen_alike
