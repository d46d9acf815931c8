use Rattle.netdiscover_file.proofs.WrongLemmas.{other_switches_are_wanted}
use Rattle.netdiscover_file.proofs.wrong_rules.other_switches_are_wanted.Goals as goal

pub returns : goal.returns
returns c = other_switches_are_wanted
