use Rattle.netdiscover_file.proofs.WrongLemmas.{some_guids_are_free}
use Rattle.netdiscover_file.proofs.wrong_rules.some_guids_are_free.Goals as goal

pub returns : goal.returns
returns c = some_guids_are_free
