use Rattle.audit_loops.proofs.ChannelLawLemmas.{channels_are_reported}
use Rattle.audit_loops.proofs.laws.channels_are_reported.Goals as goal

pub returns : goal.returns
returns c = channels_are_reported
