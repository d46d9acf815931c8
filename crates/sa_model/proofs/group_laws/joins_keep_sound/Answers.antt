use Rattle.sa_model.proofs.JoinSoundLemmas.{joined_sound}
use Rattle.sa_model.proofs.group_laws.joins_keep_sound.Goals as goal

pub returns : goal.returns
returns c = joined_sound
