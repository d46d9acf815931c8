use Rattle.audit_lanes.proofs.EnoughLemmas.{no_hop_is_missed}
use Rattle.audit_lanes.proofs.laws.no_hop_is_missed.Goals as goal

pub returns : goal.returns
returns c = no_hop_is_missed
