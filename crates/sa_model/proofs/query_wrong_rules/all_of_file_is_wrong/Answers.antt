use Rattle.sa_model.proofs.QueryWrongLemmas.{all_of_file_is_wrong}
use Rattle.sa_model.proofs.query_wrong_rules.all_of_file_is_wrong.Goals as goal

pub returns : goal.returns
returns c = all_of_file_is_wrong
