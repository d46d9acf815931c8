use Rattle.lid_assign.proofs.LawLemmas.{lids_and_guids_name_each_other}
use Rattle.lid_assign.proofs.laws.lids_and_guids_name_each_other.Goals as goal

pub returns : goal.returns
returns c = lids_and_guids_name_each_other
