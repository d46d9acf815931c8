use Rattle.std.proofs.Common.{ℕ, List, ◌+◌, ◌++◌, ◌∙◌, ap, drop, subst, sym}
use Rattle.std.proofs.lemmas.Result.{err_from_is_err_and}
use Rattle.step_results.specs.AtLine.{after_lines}
use Rattle.step_results.specs.Gives.{Fails}
use Rattle.step_results.specs.TextGives.{text_fault_in}
use Rattle.text_words.specs.Lines.{lines}
use Rattle.text_streams.proofs.TakenLemmas.{lines_cut}
use Rattle.text_streams.proofs.reading_by_lines.take_ended.Goals as goal

pub returns-in_err-now-clause-refused : goal.returns-in_err-now-clause-refused
returns-in_err-now-clause-refused g c =
    let p = err_from_is_err_and c.from_residual.result c.from_residual.ensures.1 in
    let last = c.in-Some.last in
    let waiting = c.args.waiting.now.items in
    let within = rw c.as_slice.ensures.value at c.in-Some.ensures.within in
    let lf = rw c.as_slice.ensures.value at c.in-Some.ensures.lf in
    let refused = rw c.deref.ensures.value at c.in_err-now.ensures.refused in
    rw (p.1, p.2)
    (λ (rest : List ℕ). subst (λ given. Fails (text_fault_in c.in_err-now.field-0.0) given)
    (ap (after_lines g.L.LineReader.after_line (c.args.number + 1) c.args.so_far.now) (sym (lines_cut waiting rest last within lf)))
    (refused (lines (drop (last + 1) waiting ++ rest))))

pub returns-clause-taken : goal.returns-clause-taken
returns-clause-taken g c rest =
    let step = g.L.LineReader.after_line in
    let waiting = c.args.waiting.now.items in
    let last = c.in-Some.last in
    let within = rw c.as_slice.ensures.value at c.in-Some.ensures.within in
    let lf = rw c.as_slice.ensures.value at c.in-Some.ensures.lf in
    let cut = lines_cut waiting rest last within lf in
    let taken = rw c.deref.ensures.value at c.in_ok-now.ensures.taken in
    ap (after_lines step (c.args.number + 1) c.args.so_far.now) cut
    ∙ taken (lines (drop (last + 1) waiting ++ rest))
    ∙ ap (λ left. after_lines step (c.in_ok-now.now + 1) c.take_lines.new.so_far (lines (left ++ rest))) (sym c.drop_front.ensures)
