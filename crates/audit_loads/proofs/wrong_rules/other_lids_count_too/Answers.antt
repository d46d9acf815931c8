use Rattle.audit_loads.proofs.WrongLemmas.{other_lids_count_too}
use Rattle.audit_loads.proofs.wrong_rules.other_lids_count_too.Goals as goal

pub returns : goal.returns
returns c = other_lids_count_too
