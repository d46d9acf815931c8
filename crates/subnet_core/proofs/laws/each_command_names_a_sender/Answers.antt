use Rattle.subnet_core.proofs.SenderLemmas.{commands_name_senders}
use Rattle.subnet_core.proofs.laws.each_command_names_a_sender.Goals as goal

pub returns : goal.returns
returns c = commands_name_senders
