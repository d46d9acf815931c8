use Rattle.sa_replies.proofs.RunSourceLemmas.{open_tables_are_noted}
use Rattle.sa_replies.proofs.run_laws.open_tables_are_noted.Goals as goal

pub returns : goal.returns
returns c = open_tables_are_noted
