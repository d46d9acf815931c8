use Rattle.sa_replies.proofs.ApartLemmas.{administration_keeps_apart}
use Rattle.sa_replies.proofs.run_laws.administration_keeps_apart.Goals as goal

pub returns : goal.returns
returns c = administration_keeps_apart
