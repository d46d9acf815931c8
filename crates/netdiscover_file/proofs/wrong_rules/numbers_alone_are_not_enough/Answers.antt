use Rattle.netdiscover_file.proofs.WrongLemmas.{numbers_alone_are_not_enough}
use Rattle.netdiscover_file.proofs.wrong_rules.numbers_alone_are_not_enough.Goals as goal

pub returns : goal.returns
returns c = numbers_alone_are_not_enough
