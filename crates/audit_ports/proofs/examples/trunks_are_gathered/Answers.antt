use Rattle.audit_ports.proofs.ExampleLemmas.{trunks_are_gathered}
use Rattle.audit_ports.proofs.examples.trunks_are_gathered.Goals as goal

pub returns : goal.returns
returns c = trunks_are_gathered
