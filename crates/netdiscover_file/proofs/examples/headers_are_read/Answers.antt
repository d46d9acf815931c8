use Rattle.netdiscover_file.proofs.ExampleLemmas.{headers_are_read}
use Rattle.netdiscover_file.proofs.examples.headers_are_read.Goals as goal

pub returns : goal.returns
returns c = headers_are_read
