use Rattle.audit_loads.proofs.WrongLemmas.{unused_channels_have_a_line}
use Rattle.audit_loads.proofs.wrong_rules.unused_channels_have_a_line.Goals as goal

pub returns : goal.returns
returns c = unused_channels_have_a_line
