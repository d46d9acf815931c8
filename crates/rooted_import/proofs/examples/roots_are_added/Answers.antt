use Rattle.rooted_import.proofs.ExampleLemmas.{roots_are_added}
use Rattle.rooted_import.proofs.examples.roots_are_added.Goals as goal

pub returns : goal.returns
returns c = roots_are_added
