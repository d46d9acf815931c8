use Rattle.std.specs.Option.{option_copied}
use Rattle.subnet_core.proofs.HeadlineLemmas.{answered_apart}
use Rattle.subnet_core.proofs.running.run.Goals as goal

pub returns-clause-apart : goal.returns-clause-apart
returns-clause-apart c =
    answered_apart c.args.topology.now c.args.script.now (option_copied c.args.partitions) c.in_turn.result c.in_turn.ensures.exact c.in_turn.ensures.inventories
