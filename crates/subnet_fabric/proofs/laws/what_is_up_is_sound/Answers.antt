use Rattle.subnet_fabric.proofs.RecabledSoundLemmas.{what_is_up_is_sound}
use Rattle.subnet_fabric.proofs.laws.what_is_up_is_sound.Goals as goal

pub returns : goal.returns
returns c = what_is_up_is_sound
