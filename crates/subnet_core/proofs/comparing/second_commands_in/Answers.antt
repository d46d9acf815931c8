use Rattle.script_lines.specs.Script.{commands_in}
use Rattle.subnet_core.proofs.ComparisonLemmas.{second_fails_as, second_is_good}
use Rattle.subnet_core.proofs.comparing.second_commands_in.Goals as goal

pub returns-in-Ok : goal.returns-in-Ok
returns-in-Ok c = second_is_good (commands_in c.args.subnet.now.inventory.plan c.args.script.now) c.in-Ok.commands.items c.in-Ok.ensures

pub returns-in-Err : goal.returns-in-Err
returns-in-Err c = rw c.of_second.ensures (second_fails_as (commands_in c.args.subnet.now.inventory.plan c.args.script.now) c.in-Err.fault c.in-Err.ensures)
