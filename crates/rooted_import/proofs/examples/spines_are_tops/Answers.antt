use Rattle.rooted_import.proofs.ExampleLemmas.{spines_are_tops}
use Rattle.rooted_import.proofs.examples.spines_are_tops.Goals as goal

pub returns : goal.returns
returns c = spines_are_tops
