use Rattle.audit_ports.proofs.ExampleLemmas.{ports_are_gathered}
use Rattle.audit_ports.proofs.examples.ports_are_gathered.Goals as goal

pub returns : goal.returns
returns c = ports_are_gathered
