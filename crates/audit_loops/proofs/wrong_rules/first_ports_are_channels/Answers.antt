use Rattle.audit_loops.proofs.WrongLemmas.{first_ports_are_channels}
use Rattle.audit_loops.proofs.wrong_rules.first_ports_are_channels.Goals as goal

pub returns : goal.returns
returns c = first_ports_are_channels
