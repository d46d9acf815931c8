use Rattle.cable_cuts.proofs.OnceLemmas.{numbers_are_of_what_differs}
use Rattle.cable_cuts.proofs.laws.numbers_are_of_what_differs.Goals as goal

pub returns : goal.returns
returns c = numbers_are_of_what_differs
