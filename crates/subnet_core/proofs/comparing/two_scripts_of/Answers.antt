use Rattle.subnet_core.proofs.CommandLemmas.{text_is_good}
use Rattle.subnet_core.proofs.SenderLemmas.{commands_name_senders}
use Rattle.subnet_core.specs.declared.fault.RunFault.TheVariants.{Script, SecondScript}
use Rattle.subnet_core.proofs.comparing.two_scripts_of.Goals as goal

pub returns-clause-first : goal.returns-clause-first
returns-clause-first c =
    commands_name_senders c.args.subnet.now.inventory (rw c.inventory.ensures at c.known_listed.ensures) c.args.first.now c.in_ok-first.first.items
    (text_is_good Script _ _ c.in_ok-first.ensures)

pub returns-clause-second : goal.returns-clause-second
returns-clause-second c =
    commands_name_senders c.args.subnet.now.inventory (rw c.inventory.ensures at c.known_listed.ensures) c.args.second.now c.in_ok-second.second.items
    (text_is_good SecondScript _ _ c.in_ok-second.ensures)
