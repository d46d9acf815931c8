use Rattle.audit_ports.proofs.ExampleLemmas.{defaults_are_taken_in_turn}
use Rattle.audit_ports.proofs.examples.defaults_are_taken_in_turn.Goals as goal

pub returns : goal.returns
returns c = defaults_are_taken_in_turn
