use Rattle.headline_laws.proofs.WrongLemmas.{no_bytes_are_refused}
use Rattle.headline_laws.proofs.wrong_rules.no_bytes_are_refused.Goals as goal

pub returns : goal.returns
returns c = no_bytes_are_refused
