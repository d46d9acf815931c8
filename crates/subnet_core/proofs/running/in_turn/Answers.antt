use Rattle.std.specs.Option.{option_copied}
use Rattle.std.proofs.lemmas.Result.{err_from_is_err_and}
use Rattle.subnet_core.proofs.CommandLemmas.{text_is_good}
use Rattle.subnet_core.proofs.RunLemmas.{inventories_given, run_stops, run_reports, script_fails}
use Rattle.subnet_core.proofs.SenderLemmas.{commands_name_senders}
use Rattle.subnet_core.specs.declared.fault.RunFault.TheVariants.{Script}
use Rattle.subnet_core.proofs.running.in_turn.Goals as goal

pub returns-in_err-subnet-clause-exact : goal.returns-in_err-subnet-clause-exact
returns-in_err-subnet-clause-exact c =
    let p = err_from_is_err_and c.from_residual.result c.from_residual.ensures.1 in
    rw (p.1, p.2) (run_stops c.args.topology.now (option_copied c.args.partitions) c.args.script.now _ c.in_err-subnet.ensures.exact)

pub returns-in_err-commands-clause-exact : goal.returns-in_err-commands-clause-exact
returns-in_err-commands-clause-exact c =
    let p = err_from_is_err_and c.from_residual-in_err-commands.result c.from_residual-in_err-commands.ensures.1 in
    rw (p.1, p.2)
    (script_fails c.args.topology.now (option_copied c.args.partitions) c.args.script.now _ _ c.in_ok-subnet.ensures.exact c.in_err-commands.ensures)

pub report-requires-clause-senders : goal.report-requires-clause-senders
report-requires-clause-senders c =
    rw c.deref.ensures.value
    (commands_name_senders c.in_ok-subnet.subnet.inventory (rw c.inventory.ensures at c.known_listed.ensures) c.args.script.now c.in_ok-commands.commands.items (text_is_good Script _ _ c.in_ok-commands.ensures))

pub returns-clause-exact : goal.returns-clause-exact
returns-clause-exact c =
    rw (c.in_ok-report.ensures, c.deref.ensures.value)
    (run_reports c.args.topology.now (option_copied c.args.partitions) c.args.script.now _ _ c.in_ok-subnet.ensures.exact c.in_ok-commands.ensures)

pub returns-clause-inventories : goal.returns-clause-inventories
returns-clause-inventories c =
    inventories_given c.args.topology.now (option_copied c.args.partitions) _ c.in_ok-subnet.ensures.exact (rw c.inventory.ensures at c.known_listed.ensures)
