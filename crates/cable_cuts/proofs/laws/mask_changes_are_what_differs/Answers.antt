use Rattle.cable_cuts.proofs.MaskReportedLemmas.{mask_changes_are_what_differs}
use Rattle.cable_cuts.proofs.laws.mask_changes_are_what_differs.Goals as goal

pub returns : goal.returns
returns c = mask_changes_are_what_differs
