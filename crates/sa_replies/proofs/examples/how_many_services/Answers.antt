use Rattle.sa_replies.proofs.ExampleLemmas.{how_many_services}
use Rattle.sa_replies.proofs.examples.how_many_services.Goals as goal

pub returns : goal.returns
returns c = how_many_services
