use Rattle.sa_model.proofs.LeaveSoundLemmas.{left_sound}
use Rattle.sa_model.proofs.group_laws.leaves_keep_sound.Goals as goal

pub returns : goal.returns
returns c = left_sound
