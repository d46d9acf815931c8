use Rattle.std.specs.Option.{option_copied}
use Rattle.std.proofs.lemmas.Result.{err_from_is_err_and}
use Rattle.subnet_core.proofs.BringUpLemmas.{same_inventory}
use Rattle.subnet_core.proofs.ComparisonLemmas.{runs_again}
use Rattle.subnet_core.specs.Inventory.{inventory_of}
use Rattle.subnet_core.proofs.comparing.run_again.Goals as goal

pub returns-in_err-subnet : goal.returns-in_err-subnet
returns-in_err-subnet c =
    let p = err_from_is_err_and c.from_residual.result c.from_residual.ensures.1 in
    rw (p.1, p.2) c.in_err-subnet.ensures.exact

pub port_run-requires-clause-senders : goal.port_run-requires-clause-senders
port_run-requires-clause-senders c =
    let up = c.in_ok-subnet.ensures.exact in
    c.requires c.in_ok-subnet.subnet.inventory
    (same_inventory (inventory_of c.args.topology.now (option_copied c.args.partitions)) up.stop c.in_ok-subnet.subnet.inventory up.is)

pub returns : goal.returns
returns c =
    runs_again (inventory_of c.args.topology.now (option_copied c.args.partitions)) c.in_ok-subnet.subnet.inventory c.args.port c.args.commands.items
    c.port_run.result c.in_ok-subnet.ensures.exact c.port_run.ensures.run c.port_run.ensures.fault
