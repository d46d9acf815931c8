use Rattle.sa_replies.proofs.WrongLemmas.{the_file_is_no_source}
use Rattle.sa_replies.proofs.wrong_rules.the_file_is_no_source.Goals as goal

pub returns : goal.returns
returns c = the_file_is_no_source
