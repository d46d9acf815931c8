use Rattle.dump_file.proofs.ExampleLemmas.{unsound_are_reported}
use Rattle.dump_file.proofs.examples.unsound_are_reported.Goals as goal

pub returns : goal.returns
returns c = unsound_are_reported
