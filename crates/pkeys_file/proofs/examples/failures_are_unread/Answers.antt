use Rattle.pkeys_file.proofs.ExampleLemmas.{failures_are_unread}
use Rattle.pkeys_file.proofs.examples.failures_are_unread.Goals as goal

pub returns : goal.returns
returns c = failures_are_unread
