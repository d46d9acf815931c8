use Rattle.std.proofs.Common.{◌∙◌, Ok, ap, sym, subst}
use Rattle.std.specs.List.{All}
use Rattle.std.specs.Option.{option_copied}
use Rattle.std.proofs.lemmas.Result.{err_from_is_err_and}
use Rattle.subnet_core.proofs.ComparisonLemmas.{scripts_fail, neither_is_up, runs_compare, senders_again}
use Rattle.subnet_core.specs.Comparison.{TwoScriptsState}
use Rattle.subnet_core.specs.Senders.{NamesSender}
use Rattle.subnet_core.proofs.comparing.in_turn.Goals as goal

pub returns-in_err-subnet : goal.returns-in_err-subnet
returns-in_err-subnet c =
    let p = err_from_is_err_and c.from_residual.result c.from_residual.ensures.1 in
    rw (p.1, p.2)
    (neither_is_up c.args.topology.now (option_copied c.args.partitions) c.args.first.now c.args.second.now c.args.port.now _ c.in_err-subnet.ensures.exact)

pub returns-in_err-scripts : goal.returns-in_err-scripts
returns-in_err-scripts c =
    let p = err_from_is_err_and c.from_residual-in_err-scripts.result c.from_residual-in_err-scripts.ensures.1 in
    rw (p.1, p.2)
    (scripts_fail c.args.topology.now (option_copied c.args.partitions) c.args.first.now c.args.second.now c.args.port.now c.in_ok-subnet.subnet.inventory
    c.in_ok-subnet.ensures.exact _ c.in_err-scripts.ensures.exact)

pub returns-in_err-there : goal.returns-in_err-there
returns-in_err-there c =
    let p = err_from_is_err_and c.from_residual-in_err-there.result c.from_residual-in_err-there.ensures.1 in
    rw (p.1, p.2)
    (neither_is_up c.args.topology.now (option_copied c.args.partitions) c.args.first.now c.args.second.now c.args.port.now _ c.in_err-there.ensures)

pub port_run-requires-clause-senders : goal.port_run-requires-clause-senders
port_run-requires-clause-senders c =
    subst (λ (scripts : TwoScriptsState). All (NamesSender c.in_ok-subnet.subnet.inventory.configuration.ports) scripts.first) (sym c.scripts.view_is) c.in_ok-scripts.ensures.first

pub run_again-requires : goal.run_again-requires
run_again-requires c =
    senders_again c.args.topology.now (option_copied c.args.partitions) c.args.first.now c.args.second.now c.args.port.now c.in_ok-subnet.subnet.inventory
    c.in_ok-subnet.ensures.exact c.scripts.inside.second.items
    (subst (λ (scripts : TwoScriptsState). All (NamesSender c.in_ok-subnet.subnet.inventory.configuration.ports) scripts.second) (sym c.scripts.view_is) c.in_ok-scripts.ensures.second)

pub returns : goal.returns
returns c =
    let scripts : TwoScriptsState = record { port = c.scripts.inside.port; first = c.scripts.inside.first.items; second = c.scripts.inside.second.items } in
    runs_compare c.args.topology.now (option_copied c.args.partitions) c.args.first.now c.args.second.now c.args.port.now c.in_ok-subnet.subnet.inventory
    c.in_ok-subnet.ensures.exact scripts (c.in_ok-scripts.ensures.exact ∙ ap (λ (some : TwoScriptsState). Ok some) (sym c.scripts.view_is)) c.in_ok-here.here
    c.in_ok-there.there c.compared.result c.in_ok-here.ensures.run c.in_ok-there.ensures c.compared.ensures
