use Rattle.std.proofs.Common.{◌+◌, arith}
use Rattle.text_words.proofs.RowLemmas.{text_of_one_more}
use Rattle.fabric_tables.specs.Multicast.{mark}
use Rattle.fabric_tables.proofs.multicast.push_marks.Goals as goal

pub loop-number-preserved : goal.loop-number-preserved
loop-number-preserved c =
    let number = c.loop-number.number in
    text_of_one_more 0 (mark c.args.held.now c.args.mlid) c.args.text.now.items c.loop-number.text.items c.push_mark.new.text.items number (number + 1) number
    (omega arith) (omega arith) c.loop-number.invariant c.in_ok-push_mark.ensures
