use Rattle.std.proofs.lemmas.Result.{err_from_is_err_and}
use Rattle.subnet_fabric.proofs.FoundLemmas.{are_routes, no_path}
use Rattle.subnet_fabric.proofs.setting_up.routes_of.Goals as goal

pub returns-clause-all : goal.returns-clause-all
returns-clause-all c fabric found =
    let e = c.in_ok-routes.ensures in
    are_routes fabric c.args.graph c.in_ok-lids.lids c.args.roots.now c.in_ok-routes.field-0 found
    (record { lids = c.in_ok-lids.ensures.lids; order = c.in_ok-lids.ensures.order }) e.graph e.lids e.made e.reached

pub returns-in_err-routes-clause-all : goal.returns-in_err-routes-clause-all
returns-in_err-routes-clause-all c fabric found =
    let given = err_from_is_err_and c.from_residual-in_err-routes.result c.from_residual-in_err-routes.ensures.1 in
    rw (given.1, given.2)
    (no_path fabric c.args.graph c.in_ok-lids.lids c.args.roots.now _ found
    (record { lids = c.in_ok-lids.ensures.lids; order = c.in_ok-lids.ensures.order }) c.in_err-routes.ensures.fault)
