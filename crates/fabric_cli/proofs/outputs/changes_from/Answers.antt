use Rattle.std.specs.Option.{option_copied}
use Rattle.fabric_cli.proofs.JudgedLemmas.{second_stops}
use Rattle.fabric_cli.proofs.outputs.changes_from.Goals as goal

pub returns-in-Err-clause-exact : goal.returns-in-Err-clause-exact
returns-in-Err-clause-exact c =
    rw c.second_stop.ensures.reported (second_stops c.args.before.now c.args.topology.now (option_copied c.args.second) c.in-Err.fault c.in-Err.ensures)
