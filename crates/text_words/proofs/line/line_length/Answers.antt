use Rattle.std.proofs.Common.{◌<◌, ◌≤◌, length, arith}
use Rattle.std.specs.List.{position_or_len}
use Rattle.std.proofs.lemmas.List.{take_all, drop_all}
use Rattle.text_words.specs.Lines.{is_line_end}
use Rattle.text_words.proofs.LineLemmas.{lines-first, lines-last}
use Rattle.text_words.proofs.line.line_length.Goals as goal

pub returns-then-end-text : goal.returns-then-end-text
returns-then-end-text c =
    let within : position_or_len is_line_end c.args.text.now < length c.args.text.now = omega (arith, c.place_or_end-end.ensures.value) in
    (omega arith, rw c.place_or_end-end.ensures.value (lines-first c.args.text.now within))

pub returns-else-end-text : goal.returns-else-end-text
returns-else-end-text c =
    let past : length c.args.text.now ≤ position_or_len is_line_end c.args.text.now = omega (arith, c.place_or_end-end.ensures.value) in
    let some : 0 < length c.args.text.now = grind arith in
    (omega arith, rw (take_all (length c.args.text.now) c.args.text.now (omega arith), drop_all (length c.args.text.now) c.args.text.now (omega arith)) (lines-last c.args.text.now some past))
