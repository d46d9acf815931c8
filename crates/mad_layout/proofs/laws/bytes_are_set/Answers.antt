use Rattle.mad_layout.proofs.AlignedLemmas.{byte_is_set}
use Rattle.mad_layout.proofs.laws.bytes_are_set.Goals as goal

pub returns : goal.returns
returns c = byte_is_set
