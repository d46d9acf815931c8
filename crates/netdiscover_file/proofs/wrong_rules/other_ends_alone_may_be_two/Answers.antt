use Rattle.netdiscover_file.proofs.WrongLemmas.{other_ends_alone_may_be_two}
use Rattle.netdiscover_file.proofs.wrong_rules.other_ends_alone_may_be_two.Goals as goal

pub returns : goal.returns
returns c = other_ends_alone_may_be_two
