use Rattle.mad_layout.proofs.AlignedLemmas.{byte_is_field}
use Rattle.attr_tables.proofs.port_block.PortBlock.read.Goals as goal

pub returns-clause-entries : goal.returns-clause-entries
returns-clause-entries c = λ k h. byte_is_field c.args.bytes.now k c.known_bytes.ensures h
