use Rattle.switch_model.proofs.GoodLemmas.{new_switches_good, smps_keep_good}
use Rattle.switch_model.proofs.laws.switches_stay_good.Goals as goal

pub returns-clause-new : goal.returns-clause-new
returns-clause-new c = new_switches_good

pub returns-clause-kept : goal.returns-clause-kept
returns-clause-kept c = smps_keep_good
