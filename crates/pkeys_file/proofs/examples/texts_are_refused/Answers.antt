use Rattle.pkeys_file.proofs.ExampleLemmas.{texts_are_refused}
use Rattle.pkeys_file.proofs.examples.texts_are_refused.Goals as goal

pub returns : goal.returns
returns c = texts_are_refused
