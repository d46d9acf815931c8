use Rattle.partition_file.proofs.PieceLemmas.{word_more}
use Rattle.partition_file.proofs.piece.push_words.Goals as goal

pub loop-word-preserved : goal.loop-word-preserved
loop-word-preserved c =
    rw (c.in_ok-extend_from_slice.ensures.items, c.in_ok-push.ensures.items)
    (word_more c.args.words.now c.loop-word.word-index _ c.loop-word.piece.items c.args.piece.now.items c.loop-word-test.true c.loop-word.invariant)
