use Rattle.sa_replies.proofs.SightLemmas.{answers_keep_sound}
use Rattle.sa_replies.proofs.laws.answers_keep_sound.Goals as goal

pub returns : goal.returns
returns c = answers_keep_sound
