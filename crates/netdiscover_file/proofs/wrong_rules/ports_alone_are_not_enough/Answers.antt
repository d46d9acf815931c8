use Rattle.netdiscover_file.proofs.WrongLemmas.{ports_alone_are_not_enough}
use Rattle.netdiscover_file.proofs.wrong_rules.ports_alone_are_not_enough.Goals as goal

pub returns : goal.returns
returns c = ports_alone_are_not_enough
