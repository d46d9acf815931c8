use Rattle.cable_cuts.proofs.WrongLemmas.{counted_twice_is_more}
use Rattle.cable_cuts.proofs.wrong_rules.counted_twice_is_more.Goals as goal

pub returns : goal.returns
returns c = counted_twice_is_more
