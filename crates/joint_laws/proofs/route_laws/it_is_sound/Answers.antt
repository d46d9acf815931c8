use Rattle.joint_laws.proofs.SoundDumpLemmas.{it_is_sound}
use Rattle.joint_laws.proofs.route_laws.it_is_sound.Goals as goal

pub returns : goal.returns
returns c = it_is_sound
