use Rattle.std.proofs.Common.{◌+◌, arith}
use Rattle.text_words.proofs.RowLemmas.{text_of_one_more}
use Rattle.fabric_tables.specs.Multicast.{ones_mark}
use Rattle.fabric_tables.proofs.multicast.push_ones_marks.Goals as goal

pub loop-number-preserved : goal.loop-number-preserved
loop-number-preserved c =
    let number = c.loop-number.number in
    text_of_one_more 0 ones_mark c.args.text.now.items c.loop-number.text.items c.push_ones_mark.new.text.items number (number + 1) number
    (omega arith) (omega arith) c.loop-number.invariant c.in_ok-push_ones_mark.ensures
