use Rattle.netdiscover_file.proofs.LawLemmas.{taken_guids_are_reported}
use Rattle.netdiscover_file.proofs.laws.taken_guids_are_reported.Goals as goal

pub returns : goal.returns
returns c = taken_guids_are_reported
