use Rattle.netdiscover_file.proofs.LawLemmas.{missing_ends_are_reported}
use Rattle.netdiscover_file.proofs.laws.missing_ends_are_reported.Goals as goal

pub returns : goal.returns
returns c = missing_ends_are_reported
