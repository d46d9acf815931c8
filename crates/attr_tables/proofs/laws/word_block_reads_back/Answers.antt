use Rattle.std.proofs.Common.{◌≡◌, arith}
use Rattle.attr_tables.proofs.BlockLemmas.{same_entries}
use Rattle.attr_tables.proofs.laws.word_block_reads_back.Goals as goal

pub returns-clause-read : goal.returns-clause-read
returns-clause-read c =
    let words : c.read.result.words ≡ c.args.block.now.words =
    same_entries c.write.new.bytes 16 c.read.result.words c.args.block.now.words (omega arith) c.read.ensures c.write.ensures.entries in
    λ place. record { words = words place }
