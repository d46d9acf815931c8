use Rattle.sa_replies.proofs.ApartLemmas.{runs_stay_sound}
use Rattle.sa_replies.proofs.run_laws.runs_stay_sound.Goals as goal

pub returns : goal.returns
returns c = runs_stay_sound
