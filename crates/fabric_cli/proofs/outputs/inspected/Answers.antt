use Rattle.std.specs.Option.{option_copied}
use Rattle.cli_args.specs.Words.{named_inspection}
use Rattle.fabric_cli.proofs.JudgedLemmas.{inspection_stops, is_inspected}
use Rattle.fabric_cli.proofs.outputs.inspected.Goals as goal

pub returns-in-Ok-clause-exact : goal.returns-in-Ok-clause-exact
returns-in-Ok-clause-exact c =
    is_inspected c.args.balanced c.args.topology.now (option_copied c.args.partitions) (named_inspection c.args.what.now) (option_copied c.args.script) c.in-Ok.subnet
    c.looked_at.result (rw c.rule_of.ensures at c.in-Ok.ensures.0) c.in-Ok.ensures.1 c.looked_at.ensures.exact

pub returns-in-Err-clause-exact : goal.returns-in-Err-clause-exact
returns-in-Err-clause-exact c =
    inspection_stops c.args.balanced c.args.topology.now (option_copied c.args.partitions) (named_inspection c.args.what.now) (option_copied c.args.script) c.in-Err.fault
    (rw c.rule_of.ensures at c.in-Err.ensures)
