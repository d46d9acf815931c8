use Rattle.std.proofs.Common.{rules}
use Rattle.subnet_fabric.specs.declared.sent.Sent.TheVariants.{Events, Request}
use Rattle.subnet_fabric.proofs.SendLemmas.{what_comes_of_asking_is_reported}
use Rattle.subnet_fabric.proofs.sending.ask.Goals as goal

pub returns-in_default-clause-reported : goal.returns-in_default-clause-reported
returns-in_default-clause-reported c = what_comes_of_asking_is_reported c.args.fabric.now c.args.command.now (Events c.new.result) (search rules)

pub returns-in_ok-carry_from-in-Ok-clause-reported : goal.returns-in_ok-carry_from-in-Ok-clause-reported
returns-in_ok-carry_from-in-Ok-clause-reported c =
    what_comes_of_asking_is_reported c.args.fabric.now c.args.command.now (Request c.in_ok-carry_from-in-Ok.field-0) (search rules)

pub returns-in_ok-refused-in-Err-clause-reported : goal.returns-in_ok-refused-in-Err-clause-reported
returns-in_ok-refused-in-Err-clause-reported c =
    what_comes_of_asking_is_reported c.args.fabric.now c.args.command.now (Events c.in_ok-refused-in-Err.field-0) (search rules)
