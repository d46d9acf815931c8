use Rattle.cable_cuts.proofs.WrongLemmas.{entries_twice_are_more}
use Rattle.cable_cuts.proofs.wrong_rules.entries_twice_are_more.Goals as goal

pub returns : goal.returns
returns c = entries_twice_are_more
