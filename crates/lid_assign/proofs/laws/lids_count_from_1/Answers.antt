use Rattle.lid_assign.proofs.LawLemmas.{lids_count_from_1}
use Rattle.lid_assign.proofs.laws.lids_count_from_1.Goals as goal

pub returns : goal.returns
returns c = lids_count_from_1
