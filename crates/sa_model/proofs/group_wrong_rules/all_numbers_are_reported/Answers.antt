use Rattle.sa_model.proofs.GroupWrongLemmas.{all_numbers_are_reported}
use Rattle.sa_model.proofs.group_wrong_rules.all_numbers_are_reported.Goals as goal

pub returns : goal.returns
returns c = all_numbers_are_reported
