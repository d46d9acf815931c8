use Rattle.netdiscover_file.proofs.OtherEndLemmas.{one_other_end}
use Rattle.netdiscover_file.proofs.laws.cables_have_one_other_end.Goals as goal

pub returns : goal.returns
returns c = one_other_end
