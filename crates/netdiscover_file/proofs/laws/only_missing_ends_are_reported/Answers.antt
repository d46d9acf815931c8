use Rattle.netdiscover_file.proofs.OtherEndLemmas.{only_missing_ends_are_reported}
use Rattle.netdiscover_file.proofs.laws.only_missing_ends_are_reported.Goals as goal

pub returns : goal.returns
returns c = only_missing_ends_are_reported
