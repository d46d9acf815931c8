use Rattle.switch_model.proofs.ChangeLemmas.{changes_at_most}
use Rattle.switch_model.proofs.laws.smps_change_what_they_name.Goals as goal

pub returns : goal.returns
returns c = changes_at_most
