use Rattle.script_lines.proofs.CommandLemmas.{commands_name_what_is_there}
use Rattle.script_lines.proofs.laws.commands_name_what_is_there.Goals as goal

pub returns : goal.returns
returns c = commands_name_what_is_there
