use Rattle.audit_loops.proofs.WrongLemmas.{other_lids_do_not_count}
use Rattle.audit_loops.proofs.wrong_rules.other_lids_do_not_count.Goals as goal

pub returns : goal.returns
returns c = other_lids_do_not_count
