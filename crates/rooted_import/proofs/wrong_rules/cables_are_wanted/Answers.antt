use Rattle.rooted_import.proofs.WrongLemmas.{cables_are_wanted}
use Rattle.rooted_import.proofs.wrong_rules.cables_are_wanted.Goals as goal

pub returns : goal.returns
returns c = cables_are_wanted
