use Rattle.mad_layout.proofs.LayoutLemmas.{sets_put_all}
use Rattle.mad_layout.proofs.laws.layouts_set.Goals as goal

pub returns : goal.returns
returns c = sets_put_all
