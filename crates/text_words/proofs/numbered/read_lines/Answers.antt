use Rattle.std.proofs.Common.{◌+◌, length, refl}
use Rattle.step_results.specs.AtLine.{after_lines}
use Rattle.step_results.specs.TextGives.{fault_on, text_fault_in}
use Rattle.step_results.proofs.LineLemmas.{goes_on, stops, ends, with_number}
use Rattle.text_words.specs.Lines.{lines}
use Rattle.text_words.proofs.numbered.read_lines.Goals as goal

pub returns-in-Err : goal.returns-in-Err
returns-in-Err g c =
    let step = g.R.LineReader.after_line in
    let at = c.loop-line in
    let number = at.number + 1 in
    let line = c.in-Some.line.now in
    rw c.on_line.ensures
    (stops step (text_fault_in (fault_on number c.in-Err.error)) at.number at.so_far line at.line-iterator c.next.new.self
    (length c.args.text.now) (after_lines step 1 c.args.nothing (lines c.args.text.now)) c.in-Some.ensures.steps at.invariant
    (with_number number c.in-Err.error (step number at.so_far line) c.in-Err.ensures))

pub loop-line-preserved : goal.loop-line-preserved
loop-line-preserved g c =
    let step = g.R.LineReader.after_line in
    let at = c.loop-line in
    let line = c.in-Some.line.now in
    goes_on step at.number at.so_far c.take_line.new.self line at.line-iterator c.next.new.self
    (length c.args.text.now) (after_lines step 1 c.args.nothing (lines c.args.text.now)) c.in-Some.ensures.steps at.invariant
    (rw c.in_default.ensures refl)

pub returns : goal.returns
returns g c =
    let step = g.R.LineReader.after_line in
    let at = c.loop-line in
    ends step at.number at.so_far at.line-iterator (length c.args.text.now) (after_lines step 1 c.args.nothing (lines c.args.text.now))
    c.in-None.ensures.steps.0 at.invariant
