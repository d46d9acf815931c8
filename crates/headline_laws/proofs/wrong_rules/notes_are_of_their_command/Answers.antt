use Rattle.headline_laws.proofs.WrongLemmas.{notes_are_of_their_command}
use Rattle.headline_laws.proofs.wrong_rules.notes_are_of_their_command.Goals as goal

pub returns : goal.returns
returns c = notes_are_of_their_command
