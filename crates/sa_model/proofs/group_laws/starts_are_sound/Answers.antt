use Rattle.sa_model.proofs.SoundLemmas.{start_sound}
use Rattle.sa_model.proofs.group_laws.starts_are_sound.Goals as goal

pub returns : goal.returns
returns c = start_sound
