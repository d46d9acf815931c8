use Rattle.sa_replies.proofs.WrongStateLemmas.{lost_places_are_missed}
use Rattle.sa_replies.proofs.wrong_rules.lost_places_are_missed.Goals as goal

pub returns : goal.returns
returns c = lost_places_are_missed
