use Rattle.audit_lanes.proofs.WrongLemmas.{packets_follow_entries}
use Rattle.audit_lanes.proofs.wrong_rules.packets_follow_entries.Goals as goal

pub returns : goal.returns
returns c = packets_follow_entries
