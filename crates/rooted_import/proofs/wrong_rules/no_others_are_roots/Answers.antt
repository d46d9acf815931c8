use Rattle.rooted_import.proofs.WrongLemmas.{no_others_are_roots}
use Rattle.rooted_import.proofs.wrong_rules.no_others_are_roots.Goals as goal

pub returns : goal.returns
returns c = no_others_are_roots
