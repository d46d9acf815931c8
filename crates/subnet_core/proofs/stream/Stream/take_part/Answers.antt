use Rattle.std.proofs.Common.{◌∙◌, sym}
use Rattle.std.proofs.lemmas.Result.{err_from_is_err_and}
use Rattle.subnet_core.proofs.PartLemmas.{begun_part, whole_part}
use Rattle.subnet_core.proofs.PutLemmas.{loses_reported}
use Rattle.subnet_core.proofs.TakeLemmas.{not_begun, on_ok, takes_nothing}
use Rattle.subnet_core.proofs.stream.Stream.take_part.Goals as goal

pub returns-in_err-extend_from_slice-clause-takes : goal.returns-in_err-extend_from_slice-clause-takes
returns-in_err-extend_from_slice-clause-takes g c =
    let p = err_from_is_err_and c.from_residual.result c.from_residual.ensures.1 in
    rw (p.1, p.2) (loses_reported _ _ _)

pub returns-then-not-is_whole-clause-takes : goal.returns-then-not-is_whole-clause-takes
returns-then-not-is_whole-clause-takes g c =
    rw (begun_part c.args.begun.now.items c.args.part.now (sym c.if-not-is_whole.ensures)).0 (takes_nothing c.args.self.now _)

pub returns-then-not-is_whole-clause-begun : goal.returns-then-not-is_whole-clause-begun
returns-then-not-is_whole-clause-begun g c =
    c.in_ok-extend_from_slice.ensures.items ∙ sym (begun_part c.args.begun.now.items c.args.part.now (sym c.if-not-is_whole.ensures)).1

pub returns-then-is_empty-clause-takes : goal.returns-then-is_empty-clause-takes
returns-then-is_empty-clause-takes g c =
    let whole = whole_part c.args.begun.now.items c.args.part.now (sym c.if-not-is_whole.ensures) in
    let none = not_begun c.args.begun.now.items (rw c.as_slice.ensures.value at c.if-is_empty.ensures) in
    rw (whole.0, none) c.take_line.ensures.takes

pub returns-then-is_empty-clause-begun : goal.returns-then-is_empty-clause-begun
returns-then-is_empty-clause-begun g c =
    let whole = whole_part c.args.begun.now.items c.args.part.now (sym c.if-not-is_whole.ensures) in
    on_ok c.take_line.result (not_begun c.args.begun.now.items (rw c.as_slice.ensures.value at c.if-is_empty.ensures) ∙ sym whole.1)

pub returns-in_err-extend_from_slice-2-clause-takes : goal.returns-in_err-extend_from_slice-2-clause-takes
returns-in_err-extend_from_slice-2-clause-takes g c =
    let p = err_from_is_err_and c.from_residual-in_err-extend_from_slice-2.result c.from_residual-in_err-extend_from_slice-2.ensures.1 in
    rw (p.1, p.2) (loses_reported _ _ _)

pub returns-clause-takes : goal.returns-clause-takes
returns-clause-takes g c =
    let whole = whole_part c.args.begun.now.items c.args.part.now (sym c.if-not-is_whole.ensures) in
    rw (whole.0, ← c.in_ok-extend_from_slice-2.ensures.items, ← c.deref.ensures.value) c.take_line-taken.ensures.takes

pub returns-clause-begun : goal.returns-clause-begun
returns-clause-begun g c =
    let whole = whole_part c.args.begun.now.items c.args.part.now (sym c.if-not-is_whole.ensures) in
    on_ok c.take_line-taken.result (c.clear.ensures.items ∙ sym whole.1)
