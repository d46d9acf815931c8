use Rattle.audit_multicast.proofs.CutLawLemmas.{cut_members_are_apart}
use Rattle.audit_multicast.proofs.laws.cut_members_are_apart.Goals as goal

pub returns : goal.returns
returns c = cut_members_are_apart
