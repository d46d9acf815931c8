use Rattle.cable_cuts.proofs.FateLemmas.{changes_are_the_fabrics}
use Rattle.cable_cuts.proofs.laws.changes_are_the_fabrics.Goals as goal

pub returns : goal.returns
returns c = changes_are_the_fabrics
