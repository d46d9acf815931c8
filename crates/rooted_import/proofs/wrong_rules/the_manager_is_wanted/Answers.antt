use Rattle.rooted_import.proofs.WrongLemmas.{the_manager_is_wanted}
use Rattle.rooted_import.proofs.wrong_rules.the_manager_is_wanted.Goals as goal

pub returns : goal.returns
returns c = the_manager_is_wanted
