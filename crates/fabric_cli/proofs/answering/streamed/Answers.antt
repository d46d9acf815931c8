use Rattle.std.specs.Option.{option_copied}
use Rattle.fabric_cli.proofs.RunLemmas.{run_done, run_fails}
use Rattle.fabric_cli.proofs.answering.streamed.Goals as goal

pub returns-in-Ok-clause-exact : goal.returns-in-Ok-clause-exact
returns-in-Ok-clause-exact g c = run_done _ c.args.topology.now (option_copied c.args.partitions) c.args.script.name _ _ _ _ (g.O.Output.is_sure c.args.out.now) c.in-Ok.field-0 c.in-Ok.ensures.exact

pub returns-clause-exact : goal.returns-clause-exact
returns-clause-exact g c =
    rw c.of_run.ensures
    (run_fails _ c.args.topology.now (option_copied c.args.partitions) c.args.script.name _ _ _ _ (g.O.Output.is_sure c.args.out.now) c.in-Err.fault c.in-Err.ensures.exact c.in-Err.ensures.sure)
