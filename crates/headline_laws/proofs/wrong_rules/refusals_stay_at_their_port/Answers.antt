use Rattle.headline_laws.proofs.WrongLemmas.{refusals_stay_at_their_port}
use Rattle.headline_laws.proofs.wrong_rules.refusals_stay_at_their_port.Goals as goal

pub returns : goal.returns
returns c = refusals_stay_at_their_port
