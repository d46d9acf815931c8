use Rattle.std.specs.Option.{option_copied}
use Rattle.std.specs.Prelude.{option_map}
use Rattle.fabric_cli.proofs.JudgedLemmas.{shares_come, shares_stop}
use Rattle.fabric_cli.proofs.outputs.shared.Goals as goal

pub returns-in-Err-clause-exact : goal.returns-in-Err-clause-exact
returns-in-Err-clause-exact c =
    shares_stop c.args.topology.now (option_copied c.args.partitions) (option_map (λ word. word.now) c.args.port) c.in-Err.fault c.in-Err.ensures

pub returns-in-Ok-clause-exact : goal.returns-in-Ok-clause-exact
returns-in-Ok-clause-exact c =
    shares_come c.args.topology.now (option_copied c.args.partitions) (option_map (λ word. word.now) c.args.port) c.in-Ok.inventory
    c.shares_in.result c.in-Ok.ensures c.shares_in.ensures.exact
