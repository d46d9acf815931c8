use Rattle.netdiscover_file.proofs.ExampleLemmas.{ends_are_read}
use Rattle.netdiscover_file.proofs.examples.ends_are_read.Goals as goal

pub returns : goal.returns
returns c = ends_are_read
