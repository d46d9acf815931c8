use Rattle.netdiscover_file.proofs.WrongLemmas.{nodes_alone_are_not_enough}
use Rattle.netdiscover_file.proofs.wrong_rules.nodes_alone_are_not_enough.Goals as goal

pub returns : goal.returns
returns c = nodes_alone_are_not_enough
