use Rattle.audit_loads.proofs.ExampleLemmas.{fractions_are_rounded_down}
use Rattle.audit_loads.proofs.examples.fractions_are_rounded_down.Goals as goal

pub returns : goal.returns
returns c = fractions_are_rounded_down
