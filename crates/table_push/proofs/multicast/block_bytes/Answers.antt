use Rattle.table_push.proofs.KeyLemmas.{table_of}
use Rattle.table_push.proofs.multicast.block_bytes.Goals as goal

pub returns-clause-words : goal.returns-clause-words
returns-clause-words c = table_of 32 c.args.words.now c.told-words c.fits-words
