use Rattle.std.proofs.lemmas.Result.{err_from_is_err_and}
use Rattle.std.specs.Option.{option_copied}
use Rattle.subnet_core.proofs.AfterLemmas.{left_after, left_as_up, nothing_left}
use Rattle.subnet_core.specs.Inventory.{inventory_by}
use Rattle.subnet_core.proofs.leaving.left_by.Goals as goal

pub returns-in_err-subnet : goal.returns-in_err-subnet
returns-in_err-subnet c =
    let p = err_from_is_err_and c.from_residual.result c.from_residual.ensures.1 in
    rw (p.1, p.2)
    (nothing_left (inventory_by c.args.rule c.args.topology.now (option_copied c.args.partitions)) (option_copied c.args.script) _ c.in_err-subnet.ensures.exact)

pub returns-in-Some : goal.returns-in-Some
returns-in-Some c =
    rw c.in-Some.is
    (left_after (inventory_by c.args.rule c.args.topology.now (option_copied c.args.partitions)) c.in-Some.script.now c.in_ok-subnet.subnet c.in_ok-subnet.ensures.exact c.after.result
    c.after.ensures.inventory c.after.ensures.left c.after.ensures.fault)

pub returns-in-None : goal.returns-in-None
returns-in-None c =
    rw c.in-None.is
    (left_as_up (inventory_by c.args.rule c.args.topology.now (option_copied c.args.partitions)) c.in_ok-subnet.subnet c.in_ok-subnet.ensures.exact c.in_ok-subnet.ensures.started)
