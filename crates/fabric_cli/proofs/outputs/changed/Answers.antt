use Rattle.std.specs.Option.{option_copied}
use Rattle.fabric_cli.proofs.JudgedLemmas.{changes_come, changes_stop}
use Rattle.fabric_cli.proofs.outputs.changed.Goals as goal

pub returns-in-Err-clause-exact : goal.returns-in-Err-clause-exact
returns-in-Err-clause-exact c =
    changes_stop c.args.topology.now (option_copied c.args.partitions) (option_copied c.args.second) c.in-Err.fault c.in-Err.ensures

pub returns-in-Ok-clause-exact : goal.returns-in-Ok-clause-exact
returns-in-Ok-clause-exact c =
    changes_come c.args.topology.now (option_copied c.args.partitions) (option_copied c.args.second) c.in-Ok.before c.changes_from.result
    c.in-Ok.ensures c.changes_from.ensures.exact
