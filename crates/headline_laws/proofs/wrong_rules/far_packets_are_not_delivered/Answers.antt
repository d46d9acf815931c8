use Rattle.headline_laws.proofs.WrongLemmas.{far_packets_are_not_delivered}
use Rattle.headline_laws.proofs.wrong_rules.far_packets_are_not_delivered.Goals as goal

pub returns : goal.returns
returns c = far_packets_are_not_delivered
