use Rattle.std.proofs.Common.{arith}
use Rattle.attr_tables.specs.Blocks.{word_bytes}
use Rattle.attr_tables.proofs.BlockLemmas.{written_word}
use Rattle.attr_tables.proofs.word_block.WordBlock.write.Goals as goal

pub returns-clause-entries : goal.returns-clause-entries
returns-clause-entries c =
    λ k h. written_word c.write_u16_into.new.dst c.args.self.now.words k c.known_bytes.ensures
    c.write_u16_into.ensures h (omega arith) (c.known_words.ensures k)

pub returns-clause-bytes : goal.returns-clause-bytes
unfolding word_bytes
returns-clause-bytes c = c.write_u16_into.ensures
