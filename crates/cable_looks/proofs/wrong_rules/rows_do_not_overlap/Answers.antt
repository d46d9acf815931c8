use Rattle.cable_looks.proofs.StepLemmas.{rows_do_not_overlap}
use Rattle.cable_looks.proofs.wrong_rules.rows_do_not_overlap.Goals as goal

pub returns : goal.returns
returns c = rows_do_not_overlap
