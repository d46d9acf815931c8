use Rattle.audit_loads.proofs.ExampleLemmas.{ports_send_to_others}
use Rattle.audit_loads.proofs.examples.ports_send_to_others.Goals as goal

pub returns : goal.returns
returns c = ports_send_to_others
