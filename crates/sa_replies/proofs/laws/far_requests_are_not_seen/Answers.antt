use Rattle.sa_replies.proofs.SightLemmas.{far_requests}
use Rattle.sa_replies.proofs.laws.far_requests_are_not_seen.Goals as goal

pub returns : goal.returns
returns c = far_requests
