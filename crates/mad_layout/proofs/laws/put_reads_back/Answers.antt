use Rattle.mad_layout.proofs.LayoutLemmas.{field-put_same}
use Rattle.mad_layout.proofs.laws.put_reads_back.Goals as goal

pub returns : goal.returns
returns c = field-put_same
