use Rattle.std.proofs.Common.{◌+◌, ◌-◌, arith}
use Rattle.text_words.proofs.RowLemmas.{text_of_one_more}
use Rattle.fabric_tables.specs.Keys.{facing_line}
use Rattle.fabric_tables.proofs.keys.push_facing_lines.Goals as goal

pub loop-number-preserved : goal.loop-number-preserved
loop-number-preserved c =
    let number = c.loop-number.number in
    let first = c.loop-number.invariant.0 in (
      omega arith,
      text_of_one_more 1 (facing_line c.args.fabric.now c.args.switch.now c.args.name.now c.args.place) c.args.text.now.items
          c.loop-number.text.items c.push_facing_line.new.text.items (number - 1) (number + 1 - 1) number (omega (arith, first)) (omega (arith, first))
          c.loop-number.invariant.1 c.in_ok-push_facing_line.ensures,
    )
