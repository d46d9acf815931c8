use Rattle.std.proofs.Common.{arith, ◌∙◌}
use Rattle.attr_tables.proofs.BlockLemmas.{word_is_field}
use Rattle.attr_tables.proofs.word_block.WordBlock.read.Goals as goal

pub returns : goal.returns
returns c = λ k h. c.read_u16_into.ensures k h ∙ word_is_field c.args.bytes.now k c.known_bytes.ensures (omega arith)
