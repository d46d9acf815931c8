use Rattle.sa_replies.proofs.InCommonLemmas.{sight_shows_all}
use Rattle.sa_replies.proofs.run_laws.sight_shows_all.Goals as goal

pub returns : goal.returns
returns c = sight_shows_all
