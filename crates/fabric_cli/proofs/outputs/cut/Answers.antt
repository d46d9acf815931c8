use Rattle.std.specs.Option.{option_copied}
use Rattle.cli_args.specs.Words.{named_view}
use Rattle.fabric_cli.proofs.CutLemmas.{brought_up}
use Rattle.fabric_cli.proofs.JudgedLemmas.{cuts_come, cuts_stop}
use Rattle.fabric_cli.proofs.outputs.cut.Goals as goal

pub cuts_of-requires : goal.cuts_of-requires
cuts_of-requires c = brought_up c.in-Ok.subnet c.in-Ok.ensures.started

pub returns-in-Ok-clause-exact : goal.returns-in-Ok-clause-exact
returns-in-Ok-clause-exact c =
    cuts_come c.args.balanced c.args.topology.now (option_copied c.args.partitions) (named_view c.args.view) c.in-Ok.subnet c.cuts_of.result
    (rw c.rule_of.ensures at c.in-Ok.ensures.exact) c.in-Ok.ensures.started c.cuts_of.ensures.exact

pub returns-in-Err-clause-exact : goal.returns-in-Err-clause-exact
returns-in-Err-clause-exact c =
    cuts_stop c.args.balanced c.args.topology.now (option_copied c.args.partitions) (named_view c.args.view) c.in-Err.fault (rw c.rule_of.ensures at c.in-Err.ensures.exact)
