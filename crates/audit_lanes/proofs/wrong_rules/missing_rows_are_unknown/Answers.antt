use Rattle.audit_lanes.proofs.WrongLemmas.{missing_rows_are_unknown}
use Rattle.audit_lanes.proofs.wrong_rules.missing_rows_are_unknown.Goals as goal

pub returns : goal.returns
returns c = missing_rows_are_unknown
