use Rattle.mad_layout.proofs.LayoutLemmas.{field-put_apart}
use Rattle.mad_layout.proofs.laws.put_leaves_others.Goals as goal

pub returns : goal.returns
returns c = field-put_apart
