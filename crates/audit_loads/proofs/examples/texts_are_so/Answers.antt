use Rattle.audit_loads.proofs.ExampleLemmas.{texts_are_so}
use Rattle.audit_loads.proofs.examples.texts_are_so.Goals as goal

pub returns : goal.returns
returns c = texts_are_so
