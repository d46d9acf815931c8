use Rattle.cable_looks.proofs.StepLemmas.{each_load_has_one_row}
use Rattle.cable_looks.proofs.laws.each_load_has_one_row.Goals as goal

pub returns : goal.returns
returns c = each_load_has_one_row
