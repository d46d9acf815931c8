use Rattle.sa_replies.proofs.NoteLemmas.{notes_stand_beside}
use Rattle.sa_replies.proofs.laws.notes_stand_beside.Goals as goal

pub returns : goal.returns
returns c = notes_stand_beside
