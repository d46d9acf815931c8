use Rattle.mad_layout.proofs.LayoutLemmas.{encodes_put_all}
use Rattle.mad_layout.proofs.laws.layouts_encode.Goals as goal

pub returns : goal.returns
returns c = encodes_put_all
