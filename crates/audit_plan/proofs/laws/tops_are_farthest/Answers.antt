use Rattle.audit_plan.proofs.TopLemmas.{tops_are_farthest}
use Rattle.audit_plan.proofs.laws.tops_are_farthest.Goals as goal

pub returns : goal.returns
returns c = tops_are_farthest
