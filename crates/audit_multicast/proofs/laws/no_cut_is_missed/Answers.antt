use Rattle.audit_multicast.proofs.CutLawLemmas.{no_cut_is_missed}
use Rattle.audit_multicast.proofs.laws.no_cut_is_missed.Goals as goal

pub returns : goal.returns
returns c = no_cut_is_missed
