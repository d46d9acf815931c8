use Rattle.audit_lanes.proofs.PrintedLemmas.{routes_are_printed_too}
use Rattle.audit_lanes.proofs.wrong_rules.routes_are_printed_too.Goals as goal

pub returns : goal.returns
returns c = routes_are_printed_too
