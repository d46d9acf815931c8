use Rattle.sa_model.proofs.ServiceSoundLemmas.{services_stay_sound}
use Rattle.sa_model.proofs.service_laws.services_stay_sound.Goals as goal

pub returns : goal.returns
returns c = services_stay_sound
