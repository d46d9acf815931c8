use Rattle.std.specs.Option.{option_copied}
use Rattle.subnet_core.proofs.ComparisonLemmas.{answered_apart}
use Rattle.subnet_core.proofs.comparing.compare.Goals as goal

pub returns-clause-apart : goal.returns-clause-apart
returns-clause-apart c =
    answered_apart c.args.topology.now (option_copied c.args.partitions) c.args.first.now c.args.second.now c.args.port.now c.in_turn.result c.in_turn.ensures
