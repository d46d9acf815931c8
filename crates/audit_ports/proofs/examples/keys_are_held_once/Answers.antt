use Rattle.audit_ports.proofs.ExampleLemmas.{keys_are_held_once}
use Rattle.audit_ports.proofs.examples.keys_are_held_once.Goals as goal

pub returns : goal.returns
returns c = keys_are_held_once
