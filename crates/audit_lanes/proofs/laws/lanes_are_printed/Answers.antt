use Rattle.audit_lanes.proofs.PrintedLemmas.{lanes_are_printed}
use Rattle.audit_lanes.proofs.laws.lanes_are_printed.Goals as goal

pub returns : goal.returns
returns c = lanes_are_printed
