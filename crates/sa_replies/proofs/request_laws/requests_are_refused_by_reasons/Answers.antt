use Rattle.sa_replies.proofs.OtherStatusLemmas.{requests_are_refused_by_reasons}
use Rattle.sa_replies.proofs.request_laws.requests_are_refused_by_reasons.Goals as goal

pub returns : goal.returns
returns c = requests_are_refused_by_reasons
