use Rattle.std.proofs.lemmas.Result.{err_from_is_err_and}
use Rattle.subnet_core.proofs.BringUpLemmas.{comes_up, fabric_fails, texts_fail}
use Rattle.subnet_core.proofs.bringing_up.bring_up_by.Goals as goal

pub returns-in_err-inventory-clause-exact : goal.returns-in_err-inventory-clause-exact
returns-in_err-inventory-clause-exact c =
    let p = err_from_is_err_and c.from_residual.result c.from_residual.ensures.1 in
    rw (p.1, p.2) (texts_fail _ _ c.in_err-inventory.ensures)

pub returns-in_err-up-clause-exact : goal.returns-in_err-up-clause-exact
returns-in_err-up-clause-exact c =
    let p = err_from_is_err_and c.from_residual-in_err-up.result c.from_residual-in_err-up.ensures.1 in
    rw (p.1, p.2) (fabric_fails _ _ _ c.in_ok-inventory.ensures c.in_err-up.ensures)

pub returns-clause-exact : goal.returns-clause-exact
returns-clause-exact c = rw c.in_ok-new.ensures.inventory (comes_up _ _ _ c.in_ok-inventory.ensures c.in_ok-up.ensures)

pub returns-clause-inventoried : goal.returns-clause-inventoried
returns-clause-inventoried c = rw c.in_ok-new.ensures.inventory c.known_listed.ensures
