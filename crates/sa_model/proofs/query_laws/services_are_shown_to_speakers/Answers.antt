use Rattle.sa_model.proofs.ServicesShownLemmas.{services_are_shown_to_speakers}
use Rattle.sa_model.proofs.query_laws.services_are_shown_to_speakers.Goals as goal

pub returns : goal.returns
returns c = services_are_shown_to_speakers
