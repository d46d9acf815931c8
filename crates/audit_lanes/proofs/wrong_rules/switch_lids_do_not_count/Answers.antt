use Rattle.audit_lanes.proofs.WrongLemmas.{switch_lids_do_not_count}
use Rattle.audit_lanes.proofs.wrong_rules.switch_lids_do_not_count.Goals as goal

pub returns : goal.returns
returns c = switch_lids_do_not_count
