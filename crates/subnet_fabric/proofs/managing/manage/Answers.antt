use Rattle.std.proofs.Common.{inr}
use Rattle.std.proofs.lemmas.Result.{err_from_is_err_and}
use Rattle.subnet_fabric.proofs.managing.manage.Goals as goal

pub returns-in_err-roots-clause-over : goal.returns-in_err-roots-clause-over
returns-in_err-roots-clause-over g c fabric is sweepable =
    let given = err_from_is_err_and c.from_residual.result c.from_residual.ensures.1 in
    rw (given.1, given.2) (inr tt, is)

pub returns-clause-managed : goal.returns-clause-managed
returns-clause-managed g c = rw (c.deref.ensures.value, c.in_ok-roots.ensures) at c.set_up_over.ensures.managed

pub returns-clause-few : goal.returns-clause-few
returns-clause-few g c = c.set_up_over.ensures.few

pub returns-clause-over : goal.returns-clause-over
returns-clause-over g c = rw (c.deref.ensures.value, c.in_ok-roots.ensures) at c.set_up_over.ensures.over
