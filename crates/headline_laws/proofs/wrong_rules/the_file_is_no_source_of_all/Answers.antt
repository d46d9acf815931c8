use Rattle.headline_laws.proofs.WrongLemmas.{the_file_is_no_source_of_all}
use Rattle.headline_laws.proofs.wrong_rules.the_file_is_no_source_of_all.Goals as goal

pub returns : goal.returns
returns c = the_file_is_no_source_of_all
