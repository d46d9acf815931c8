use Rattle.std.proofs.Common.{◌+◌, ◌++◌, arith, ap, length, refl, sym}
use Rattle.step_results.specs.AtLine.{after_lines}
use Rattle.step_results.specs.TextGives.{fault_on, text_fault_in}
use Rattle.step_results.proofs.LineLemmas.{goes_on, stops, with_number}
use Rattle.text_words.specs.Lines.{lines}
use Rattle.text_streams.proofs.reading_by_lines.take_lines.Goals as goal

pub returns-in-Err-clause-refused : goal.returns-in-Err-clause-refused
returns-in-Err-clause-refused g c rest =
    let step = g.L.LineReader.after_line in
    let at = c.loop-line in
    let number = at.now + 1 in
    let line = c.in-Some.line.now in
    rw c.on_line.ensures
    (stops step (text_fault_in (fault_on number c.in-Err.error)) at.now at.so_far line (at.line-iterator ++ rest) (c.next.new.self ++ rest)
    (c.args.number + length c.args.text.now + length rest) (after_lines step (c.args.number + 1) c.args.so_far.now (lines c.args.text.now ++ rest))
    (ap (λ left. left ++ rest) c.in-Some.ensures.steps) (at.invariant.left rest)
    (with_number number c.in-Err.error (step number at.so_far line) c.in-Err.ensures))

pub loop-line-preserved : goal.loop-line-preserved
loop-line-preserved g c =
    let step = g.L.LineReader.after_line in
    let at = c.loop-line in
    let line = c.in-Some.line.now in
    let first = ap length c.in-Some.ensures.steps in
    let fits = at.invariant.count in
    record {
      count = omega (arith, first, fits);
      left = λ rest. goes_on step at.now at.so_far c.take_line.new.self line (at.line-iterator ++ rest) (c.next.new.self ++ rest)
          (c.args.number + length c.args.text.now + length rest) (after_lines step (c.args.number + 1) c.args.so_far.now (lines c.args.text.now ++ rest))
          (ap (λ left. left ++ rest) c.in-Some.ensures.steps) (at.invariant.left rest) (rw c.in_default.ensures refl);
    }

pub returns-clause-taken : goal.returns-clause-taken
returns-clause-taken g c rest =
    let step = g.L.LineReader.after_line in
    let at = c.loop-line in
    sym (rw c.in-None.ensures.steps.0 at ((at.invariant.left rest).same))
