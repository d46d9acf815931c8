use Rattle.cable_cuts.proofs.ChangeLemmas.{changes_are_what_differs}
use Rattle.cable_cuts.proofs.laws.changes_are_what_differs.Goals as goal

pub returns : goal.returns
returns c = changes_are_what_differs
