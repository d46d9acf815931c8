use Rattle.netdiscover_file.proofs.WrongLemmas.{far_ends_alone_are_not_enough}
use Rattle.netdiscover_file.proofs.wrong_rules.far_ends_alone_are_not_enough.Goals as goal

pub returns : goal.returns
returns c = far_ends_alone_are_not_enough
