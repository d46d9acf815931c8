use Rattle.audit_lanes.proofs.WrongLemmas.{dropped_packets_are_lost}
use Rattle.audit_lanes.proofs.wrong_rules.dropped_packets_are_lost.Goals as goal

pub returns : goal.returns
returns c = dropped_packets_are_lost
