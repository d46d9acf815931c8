use Rattle.mad_layout.proofs.AlignedLemmas.{byte_is_field}
use Rattle.mad_layout.proofs.laws.bytes_are_fields.Goals as goal

pub returns : goal.returns
returns c = byte_is_field
