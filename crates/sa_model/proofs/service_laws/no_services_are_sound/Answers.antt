use Rattle.sa_model.proofs.ServiceSoundLemmas.{start_sound}
use Rattle.sa_model.proofs.service_laws.no_services_are_sound.Goals as goal

pub returns : goal.returns
returns c = start_sound
