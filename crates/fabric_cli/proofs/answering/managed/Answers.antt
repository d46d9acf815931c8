use Rattle.std.specs.Option.{option_copied}
use Rattle.fabric_cli.proofs.EndingLemmas.{kept}
use Rattle.fabric_cli.proofs.ManageLemmas.{fabric_fails, files_fail, manage_done, replies_fail, unsent}
use Rattle.fabric_cli.proofs.answering.managed.Goals as goal

pub returns-in-Err-clause-exact : goal.returns-in-Err-clause-exact
returns-in-Err-clause-exact g c read =
    files_fail c.args.balanced c.args.topology.now (option_copied c.args.partitions) read (g.O.Output.is_sure c.args.out.now) _ c.in-Err.fault (kept _) (rw c.rule_of.ensures at c.in-Err.ensures)

pub returns-then-write_whole-clause-exact : goal.returns-then-write_whole-clause-exact
returns-then-write_whole-clause-exact g c read =
    manage_done c.args.balanced c.args.topology.now (option_copied c.args.partitions) read (g.O.Output.is_sure c.args.out.now) _ _ c.in-Ok.inventory (rw c.rule_of.ensures at c.in-Ok.ensures)

pub returns-in-Ok-brought_up-clause-exact : goal.returns-in-Ok-brought_up-clause-exact
returns-in-Ok-brought_up-clause-exact g c read =
    let any = g.O.Output.contents c.args.out.now in
    unsent c.args.balanced c.args.topology.now (option_copied c.args.partitions) read (g.O.Output.is_sure c.args.out.now) any any c.in-Ok.inventory (rw c.rule_of.ensures at c.in-Ok.ensures)

pub returns-in-Err-Lines-clause-exact : goal.returns-in-Err-Lines-clause-exact
returns-in-Err-Lines-clause-exact g c read =
    rw c.of_replies.ensures
    (replies_fail c.args.balanced c.args.topology.now (option_copied c.args.partitions) read (g.O.Output.is_sure c.args.out.now) _ _ c.in-Ok.inventory (rw c.rule_of.ensures at c.in-Ok.ensures) _ _)

pub returns-clause-exact : goal.returns-clause-exact
returns-clause-exact g c read =
    rw c.of_managed.ensures
    (fabric_fails c.args.balanced c.args.topology.now (option_copied c.args.partitions) read (g.O.Output.is_sure c.args.out.now) _ _ c.in-Ok.inventory (rw c.rule_of.ensures at c.in-Ok.ensures) _ _)
