use Rattle.rooted_import.proofs.WrongLemmas.{all_are_wanted}
use Rattle.rooted_import.proofs.wrong_rules.all_are_wanted.Goals as goal

pub returns : goal.returns
returns c = all_are_wanted
